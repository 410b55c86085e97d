use Rattle.std.proofs.Common.{◌≡◌}
use Rattle.seg_words.specs.Kept.{Kept}
use Rattle.entry_slots.specs.Standing.{entries}
use Rattle.apcu_iter.specs.RowSums.{with_rows, no_sums}
use Rattle.row_search.specs.Choices.{is_chosen}
use Rattle.apcu_iter.proofs.RowFolds.{slots_before}
use Rattle.apcu_iter.proofs.summing.add_active.Given as goal

abbrev pub invariant-loop-slot : goal.invariant-loop-slot
invariant-loop-slot g l = record {
  sums : l.sums ≡ with_rows no_sums (slots_before (is_chosen l.initial.test) (entries l.slots).conf (entries l.slots).rows l.slot);
  test : l.test ≡ l.initial.test;
  kept : Kept g.S.WordsIn l.fn.seg l.seg;
}
