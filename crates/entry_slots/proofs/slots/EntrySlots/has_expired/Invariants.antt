use Rattle.seg_words.specs.Kept.{Kept}
use Rattle.entry_slots.specs.Standing.{entries}
use Rattle.entry_slots.proofs.SpotSearch.{Rest}
use Rattle.entry_slots.proofs.slots.EntrySlots.has_expired.Given as goal

abbrev pub invariant-loop-passed : goal.invariant-loop-passed
invariant-loop-passed g l = record {
  rest_of : Rest (g.S.WordsIn.words l.fn.seg) (entries l.self) l.fn.spot.slot l.t l.at l._passed;
  kept : Kept g.S.WordsIn l.fn.seg l.seg;
}
