use Rattle.std.proofs.Common.{◌≡◌, ℕ, ◌<◌, true, None}
use Rattle.std.specs.Prelude.{slice_index_or}
use Rattle.mark_play.specs.Legal.{may_meet}
use Rattle.mark_play.proofs.legal.is_legal.Given as goal

abbrev pub invariant-loop-v : goal.invariant-loop-v
invariant-loop-v l = (k : ℕ) → k < l.v → may_meet l.workers l.worker l.mask k (slice_index_or l.windows k None) ≡ true
