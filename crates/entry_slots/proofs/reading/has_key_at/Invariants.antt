use Rattle.std.proofs.Common.{◌≡◌, ℕ, ◌+◌, ◌<◌, slice_index}
use Rattle.value_image.specs.PackedBytes.{word_at}
use Rattle.seg_words.specs.Kept.{Kept}
use Rattle.entry_slots.proofs.reading.has_key_at.Given as goal

abbrev pub invariant-loop-i : goal.invariant-loop-i
invariant-loop-i g l = record {
  same : (j : ℕ) → j < l.i → slice_index (g.S.WordsIn.words l.fn.seg) (l.at + 12 + j) ≡ word_at l.key j;
  kept : Kept g.S.WordsIn l.fn.seg l.seg;
}
