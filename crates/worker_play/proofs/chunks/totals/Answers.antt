use Rattle.std.proofs.Common.{refl}
use Rattle.worker_play.proofs.PassProgress.{one, if_ok}
use Rattle.worker_play.proofs.chunks.totals.Goals as goal

pub returns-clause-event : goal.returns-clause-event
returns-clause-event g c =
    if_ok c.totals.result.1 (λ sums f. one (record { more = c.one_event_own.ensures.more; others = c.one_event_own.ensures.others }) _ _ _ _ _ _ _ _ f c.requires.whole refl) c.totals.ensures.event
