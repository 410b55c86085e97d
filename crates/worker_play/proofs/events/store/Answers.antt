use Rattle.std.proofs.Common.{ap}
use Rattle.apcu_model.specs.declared.request.Request.TheVariants as request
use Rattle.worker_play.proofs.PassProgress.{one}
use Rattle.worker_play.proofs.events.store.Goals as goal

pub returns : goal.returns
returns g c =
    one (record { more = c.one_event_own.ensures.more; others = c.one_event_own.ensures.others }) _ _ _ _ _ _ _ _ c.store.ensures c.requires.whole (ap (λ k. request.Store k c.args.value.now c.args.ttl c.args.exclusive) c.as_slice.ensures.bytes)
