use Rattle.std.proofs.Common.{◌≡◌, ◌+◌, ◌≤◌, ◌++◌, length, drop, vec_capacity}
use Rattle.script_read.specs.Budgets.{budgets_of, all_events, most_events}
use Rattle.crew_play.proofs.budgets.budgets.Given as goal

abbrev pub invariant-loop-worker : goal.invariant-loop-worker
invariant-loop-worker l = record {
  budgets : l.all.items ++ budgets_of l.slots (drop l.worker l.scripts) ≡ budgets_of l.slots l.scripts;
  sum : l.events + all_events l.slots (drop l.worker l.scripts) ≡ all_events l.slots l.scripts;
  few : l.events ≤ most_events;
  count : length l.all.items ≡ l.worker;
  room : length l.scripts ≤ vec_capacity l.all;
}
