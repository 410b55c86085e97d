use Rattle.std.proofs.Common.{◌≡◌, ℕ, ◌+◌, ◌<◌, slice_index, length}
use Rattle.seg_words.specs.Kept.{Kept}
use Rattle.entry_slots.proofs.reading.first_words.Given as goal

abbrev pub invariant-loop-k : goal.invariant-loop-k
invariant-loop-k g l = record {
  size : length l.words ≡ 11;
  each : (j : ℕ) → j < l.k → slice_index l.words j ≡ slice_index (g.S.WordsIn.words l.initial.seg) (l.at + j);
  kept : Kept g.S.WordsIn l.initial.seg l.seg;
}
