use Rattle.std.proofs.Common.{length, ◌-◌, ◌≡◌, ◌≤◌, vec_capacity}
use Rattle.pin_table.specs.Views.{with_log}
use Rattle.pin_table.specs.Lists.{first_log, first_passes}
use Rattle.pin_table.proofs.passes.fill.Given as goal

abbrev pub invariant-loop-i : goal.invariant-loop-i
invariant-loop-i l = record {
  within : l.i ≤ length l.budgets;
  table : l.seat.table ≡ l.initial.seat.table;
  state : l.seat.state ≡ with_log l.initial.seat.state (first_log l.budgets l.i);
  items : l.list.items ≡ first_passes l.table l.budgets l.i;
  count : length l.list.items ≡ l.i;
  capacity : vec_capacity l.list ≡ vec_capacity l.initial.list;
}

abbrev pub decreases-loop-i : goal.decreases-loop-i
decreases-loop-i l = length l.budgets - l.i
