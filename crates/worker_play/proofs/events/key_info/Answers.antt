use Rattle.std.proofs.Common.{ap}
use Rattle.apcu_model.specs.declared.request.Request.TheVariants as request
use Rattle.worker_play.proofs.PassProgress.{one, if_ok}
use Rattle.worker_play.proofs.events.key_info.Goals as goal

pub returns-clause-event : goal.returns-clause-event
returns-clause-event g c =
    if_ok c.key_info.result.1 (λ info f. one (record { more = c.one_event_own.ensures.more; others = c.one_event_own.ensures.others }) _ _ _ _ _ _ _ _ f c.requires.whole (ap request.KeyInfo c.as_slice.ensures.bytes)) c.key_info.ensures.event
