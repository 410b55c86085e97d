use Rattle.std.proofs.Common.{refl}
use Rattle.worker_play.proofs.PassProgress.{one, if_ok}
use Rattle.worker_play.proofs.chunks.chunk_delete.Goals as goal

pub returns-clause-deleted : goal.returns-clause-deleted
returns-clause-deleted g c =
    if_ok c.chunk_delete-pass.result.1 (λ next f. one (record { more = c.one_event_own.ensures.more; others = c.one_event_own.ensures.others }) _ _ _ _ _ _ _ _ f c.requires.whole refl) c.chunk_delete-pass.ensures.deleted
