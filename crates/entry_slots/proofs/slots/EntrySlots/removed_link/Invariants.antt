use Rattle.seg_words.specs.Kept.{Kept}
use Rattle.entry_slots.specs.Standing.{entries}
use Rattle.entry_slots.proofs.RemovedRows.{Path}
use Rattle.entry_slots.proofs.slots.EntrySlots.removed_link.Given as goal

abbrev pub invariant-loop-passed : goal.invariant-loop-passed
invariant-loop-passed g l = record {
  path : Path (g.S.WordsIn.words l.fn.seg) (entries l.self).removed l.target l.link l.named l._passed;
  kept : Kept g.S.WordsIn l.fn.seg l.seg;
}
