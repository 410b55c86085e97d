use Rattle.std.proofs.Common.{◌≡◌, ℕ, ◌<◌, ◌≤◌, length, slice_index}
use Rattle.max_tree.proofs.pages.clear_span.Given as goal

abbrev pub invariant-loop-i : goal.invariant-loop-i
invariant-loop-i l = record {
  count : length l.numbers ≡ length l.initial.numbers;
  zeros : (j : ℕ) → l.start ≤ j → j < l.i → slice_index l.numbers j ≡ 0;
  before : (j : ℕ) → j < l.start → slice_index l.numbers j ≡ slice_index l.initial.numbers j;
  after : (j : ℕ) → l.i ≤ j → slice_index l.numbers j ≡ slice_index l.initial.numbers j;
}
