use Rattle.std.proofs.Common.{◌≡◌, ◌++◌, drop}
use Rattle.seg_words.specs.Kept.{Kept}
use Rattle.entry_slots.specs.Lists.{first_place}
use Rattle.entry_slots.specs.Standing.{entries}
use Rattle.row_search.specs.Choices.{chosen_items}
use Rattle.apcu_iter.proofs.chains.list_removed.Given as goal

abbrev pub invariant-loop-passed : goal.invariant-loop-passed
invariant-loop-passed g l = record {
  at : l.at ≡ first_place (drop l._passed (entries l.slots).removed);
  items : l.items.items ++ chosen_items l.initial.test l.fields (drop l._passed (entries l.slots).removed)
      ≡ chosen_items l.initial.test l.fields (entries l.slots).removed;
  test : l.test ≡ l.initial.test;
  kept : Kept g.S.WordsIn l.fn.seg l.seg;
}
