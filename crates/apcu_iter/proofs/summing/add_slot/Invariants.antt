use Rattle.std.proofs.Common.{◌≡◌, drop, filter}
use Rattle.seg_words.specs.Kept.{Kept}
use Rattle.entry_slots.specs.Lists.{first_place}
use Rattle.entry_slots.specs.Entries.{chain_of}
use Rattle.entry_slots.specs.Standing.{entries}
use Rattle.apcu_iter.specs.RowSums.{with_rows, no_sums}
use Rattle.row_search.specs.Choices.{is_chosen}
use Rattle.apcu_iter.proofs.RowFolds.{AreSmall}
use Rattle.apcu_iter.proofs.summing.add_slot.Given as goal

abbrev pub invariant-loop-passed : goal.invariant-loop-passed
invariant-loop-passed g l = record {
  at : l.at ≡ first_place (drop l._passed (chain_of (entries l.slots) l.slot));
  sums : with_rows l.sums (filter (is_chosen l.initial.test) (drop l._passed (chain_of (entries l.slots) l.slot)))
      ≡ with_rows no_sums (filter (is_chosen l.initial.test) (chain_of (entries l.slots) l.slot));
  small : AreSmall l.sums;
  test : l.test ≡ l.initial.test;
  kept : Kept g.S.WordsIn l.fn.seg l.seg;
}
