use Rattle.seg_words.specs.Kept.{Kept}
use Rattle.entry_slots.specs.Entries.{chain_of}
use Rattle.entry_slots.specs.Standing.{entries}
use Rattle.entry_slots.proofs.LinkSearch.{Way}
use Rattle.entry_slots.proofs.slots.EntrySlots.link_to.Given as goal

abbrev pub invariant-loop-passed : goal.invariant-loop-passed
invariant-loop-passed g l = record {
  way : Way (g.S.WordsIn.words l.fn.seg) l.slot (chain_of (entries l.self) l.slot) l.target l.link l._passed;
  kept : Kept g.S.WordsIn l.fn.seg l.seg;
}
