use Rattle.std.proofs.Common.{◌≡◌, ◌+◌, ◌≤◌, drop}
use Rattle.script_read.specs.Budgets.{events_in, most_events}
use Rattle.script_read.proofs.budgets.budget.Given as goal

abbrev pub invariant-loop-number : goal.invariant-loop-number
invariant-loop-number l = record {
  sum : l.events + events_in l.slots (drop l.number l.script) ≡ events_in l.slots l.script + 1;
  few : l.events ≤ most_events;
}
