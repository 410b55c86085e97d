use Rattle.std.proofs.Common.{◌≡◌, ◌+◌, ◌≤◌, drop}
use Rattle.script_read.specs.Budgets.{all_events, most_events}
use Rattle.script_read.proofs.budgets.event_count.Given as goal

abbrev pub invariant-loop-worker : goal.invariant-loop-worker
invariant-loop-worker l = record {
  sum : l.events + all_events l.slots (drop l.worker l.scripts) ≡ all_events l.slots l.scripts;
  few : l.events ≤ most_events;
}
