use Rattle.std.proofs.Common.{◌≡◌, ℕ, ◌+◌, ◌<◌, ◌≤◌, drop, sum, slice_index}
use Rattle.apcu_model.specs.declared.journal.TheConstants.{MOST_EVENTS}
use Rattle.shared_cache.proofs.opening.total.Given as goal

abbrev pub invariant-loop-budget : goal.invariant-loop-budget
invariant-loop-budget l = record {
  sum : l.events + sum (drop l.budget-index l.budgets) ≡ sum l.budgets;
  each : (w : ℕ) → w < l.budget-index → 0 < slice_index l.budgets w;
  few : l.events ≤ MOST_EVENTS;
}
