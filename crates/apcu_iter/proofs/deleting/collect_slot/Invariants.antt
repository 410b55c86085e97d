use Rattle.std.proofs.Common.{◌≡◌, ◌++◌, drop}
use Rattle.seg_words.specs.Kept.{Kept}
use Rattle.entry_slots.specs.Lists.{first_place}
use Rattle.entry_slots.specs.Entries.{chain_of}
use Rattle.entry_slots.specs.Standing.{entries}
use Rattle.row_search.specs.Choices.{chosen_places}
use Rattle.apcu_iter.proofs.deleting.collect_slot.Given as goal

abbrev pub invariant-loop-passed : goal.invariant-loop-passed
invariant-loop-passed g l = record {
  at : l.at ≡ first_place (drop l._passed (chain_of (entries l.slots) l.slot));
  places : l.places.items ++ chosen_places l.initial.test (drop l._passed (chain_of (entries l.slots) l.slot))
      ≡ l.initial.places.items ++ chosen_places l.initial.test (chain_of (entries l.slots) l.slot);
  test : l.test ≡ l.initial.test;
  kept : Kept g.S.WordsIn l.fn.seg l.seg;
}
