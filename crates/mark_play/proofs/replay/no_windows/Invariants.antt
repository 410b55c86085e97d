use Rattle.std.proofs.Common.{◌≡◌, ℕ, None, length}
use Rattle.std.specs.Prelude.{slice_index_or}
use Rattle.mark_play.proofs.replay.no_windows.Given as goal

abbrev pub invariant-loop-worker : goal.invariant-loop-worker
invariant-loop-worker l = record {
  full : length l.windows.items ≡ l._worker;
  none : (v : ℕ) → slice_index_or l.windows.items v None ≡ None;
}
