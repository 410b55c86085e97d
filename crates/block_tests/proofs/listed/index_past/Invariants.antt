use Rattle.std.proofs.Common.{ℕ, ◌<◌, ◌≤◌, get_or}
use Rattle.seg_words.specs.declared.gaps.Extent.{Extent}
use Rattle.block_tests.proofs.listed.index_past.Given as goal

abbrev pub invariant-loop-i : goal.invariant-loop-i
invariant-loop-i l = (k : ℕ) (d : Extent) → k < l.i → (get_or l.blocks k d).place ≤ l.place
