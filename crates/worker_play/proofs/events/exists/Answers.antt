use Rattle.std.proofs.Common.{ap}
use Rattle.apcu_model.specs.declared.request.Request.TheVariants as request
use Rattle.worker_play.proofs.PassProgress.{one}
use Rattle.worker_play.proofs.events.exists.Goals as goal

pub returns : goal.returns
returns g c =
    one (record { more = c.one_event_own.ensures.more; others = c.one_event_own.ensures.others }) _ _ _ _ _ _ _ _ c.exists.ensures c.requires.whole (ap request.Exists c.as_slice.ensures.bytes)
