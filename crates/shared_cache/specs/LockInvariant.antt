-- The invariant of the value that the lock guards, while it is not taken.
use Rattle.std.specs.Prelude.{◌≡◌, ℕ, ◌+◌, ◌≤◌, true, List, None, length, sum}
use Rattle.apcu_model.specs.declared.journal.TheConstants.{MOST_EVENTS}
use Rattle.atomic_table.specs.Seated.{TableId}
use Rattle.apcu_model.specs.declared.conf.Conf.{Conf}
use Rattle.apcu_model.specs.History.{start_of, stage_of, all_legal, are_shallow, marks_of}
use Rattle.apcu_model.specs.Journal.{Marks}
use Rattle.cache_core.specs.declared.cache.Core.{Core}
use Rattle.cache_core.specs.CoreCache.{cache_of, CoreStands}
use Rattle.pin_table.specs.Values.{WriterView}
use Rattle.pin_table.specs.Views.{aside_of, rested}
use Rattle.shared_cache.specs.TiedWindows.{AreTied}

-- The writer's seat of a table, a core and a journal agree on one history.
pub record Settled (t : TableId) (conf : Conf) (budgets : List ℕ)
    (s : WriterView) (core : Core) (journal : Marks) : Type 0 where
  pub table : s.table ≡ t
  -- no event is under way, nothing is kept of the last one, and all workers were made
  pub idle : s.state.log.hand ≡ None
  pub resting : s.state ≡ rested s.state s.state.log
  pub budgets_are : s.state.log.budgets ≡ budgets
  pub made : s.state.log.made ≡ length budgets
  -- first: the words represent the single-threaded cache after the history
  pub stands : CoreStands core s.state.words (aside_of s.state)
  pub cache : cache_of core ≡ (stage_of conf s.state.log.history).cache
  -- second: each event of the history is legal
  pub legal : all_legal (length budgets) (start_of conf) s.state.log.history ≡ true
  -- and none has more than eight nested entries, so no two rows have one number
  pub shallow : are_shallow s.state.log.history ≡ true
  -- third: each open window is the worker's window after the history
  pub tied : AreTied (stage_of conf s.state.log.history) s.state.windows
  -- fourth: the journal is the history's marks, and has room for what is left of the budgets
  pub journal_is : journal.marks ≡ marks_of s.state.log.history
  pub enough : length journal.marks + journal.room ≡ sum budgets
  pub limited : sum budgets ≤ MOST_EVENTS
