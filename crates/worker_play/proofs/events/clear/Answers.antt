use Rattle.std.proofs.Common.{refl}
use Rattle.worker_play.proofs.PassProgress.{one}
use Rattle.worker_play.proofs.events.clear.Goals as goal

pub returns : goal.returns
returns g c = one (record { more = c.one_event_own.ensures.more; others = c.one_event_own.ensures.others }) _ _ _ _ _ _ _ _ c.clear.ensures c.requires.whole refl
