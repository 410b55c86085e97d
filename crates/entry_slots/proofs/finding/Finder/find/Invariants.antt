use Rattle.std.proofs.Common.{◌≡◌}
use Rattle.seg_words.specs.Kept.{Kept}
use Rattle.apcu_model.specs.SlotOrder.{slot_of}
use Rattle.entry_slots.specs.declared.slots.EntrySlots.{EntrySlots}
use Rattle.entry_slots.specs.Entries.{chain_of}
use Rattle.entry_slots.specs.Finding.{Finds}
use Rattle.entry_slots.specs.Standing.{entries}
use Rattle.entry_slots.proofs.KeySearch.{Walk}
use Rattle.entry_slots.proofs.finding.Finder.find.Given as goal

abbrev pub invariant-loop-passed : goal.invariant-loop-passed
invariant-loop-passed g l = record {
  walk : (e : EntrySlots) → Finds g.S.WordsIn e l.fn.self l.fn.seg → l.slot ≡ slot_of (entries e).conf l.key → Walk (g.S.WordsIn.words l.fn.seg) l.key (chain_of (entries e) l.slot) l.at l._passed;
  kept : Kept g.S.WordsIn l.fn.seg l.seg;
}
