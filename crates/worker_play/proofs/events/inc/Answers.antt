use Rattle.std.proofs.Common.{w64, ap₂}
use Rattle.std.proofs.lemmas.Int.{to_z-of_z}
use Rattle.apcu_model.specs.declared.request.Request.TheVariants as request
use Rattle.worker_play.proofs.PassProgress.{one}
use Rattle.worker_play.proofs.events.inc.Goals as goal

pub returns : goal.returns
returns g c =
    one (record { more = c.one_event_own.ensures.more; others = c.one_event_own.ensures.others }) _ _ _ _ _ _ _ _ c.inc.ensures c.requires.whole
    (ap₂ (λ k n. request.Inc k n c.args.ttl) c.as_slice.ensures.bytes (to_z-of_z w64 c.args.step c.ranges.step))
