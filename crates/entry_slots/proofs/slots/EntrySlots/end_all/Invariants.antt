use Rattle.std.proofs.Common.{◌≡◌, ℕ, ◌<◌, ◌≤◌, slice_index, length}
use Rattle.seg_words.specs.Kept.{KeptBeside}
use Rattle.entry_slots.proofs.slots.EntrySlots.end_all.Given as goal

abbrev pub invariant-loop-slot : goal.invariant-loop-slot
invariant-loop-slot g l = record {
  count : length (g.S.WordsIn.words l.seg) ≡ length (g.S.WordsIn.words l.initial.seg);
  after : (j : ℕ) → l.fn.self.sma.bounds.from ≤ j → slice_index (g.S.WordsIn.words l.seg) j ≡ slice_index (g.S.WordsIn.words l.initial.seg) j;
  empty : (j : ℕ) → j < l.slot → slice_index (g.S.WordsIn.words l.seg) j ≡ 0;
  beside : KeptBeside g.S.WordsIn l.initial.seg l.seg;
}
