use Rattle.seg_words.specs.Kept.{Kept}
use Rattle.entry_slots.specs.Standing.{entries}
use Rattle.entry_slots.proofs.SpotSearch.{Path}
use Rattle.entry_slots.proofs.slots.EntrySlots.seek.Given as goal

abbrev pub invariant-loop-passed : goal.invariant-loop-passed
invariant-loop-passed g l = record {
  path : Path (g.S.WordsIn.words l.fn.seg) (entries l.self) l.slot l.key l.t l.at l.link l._passed l.stale;
  kept : Kept g.S.WordsIn l.fn.seg l.seg;
}
