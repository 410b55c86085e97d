-- A cache before it is shared.
use Rattle.std.specs.Prelude.{◌≡◌, ℕ, ◌<◌, ◌≤◌, List, [], length, sum, slice_index}
use Rattle.atomic_table.specs.Seated.{TableId}
use Rattle.apcu_model.specs.declared.conf.Conf.{Conf}
use Rattle.apcu_model.specs.declared.journal.TheConstants.{MOST_EVENTS}
use Rattle.apcu_model.specs.declared.limits.TheConstants.{MOST_WORKERS}
use Rattle.apcu_model.specs.Conf.{IsGood}
use Rattle.apcu_model.specs.Journal.{Marks}
use Rattle.cache_core.specs.declared.cache.Core.{Core}
use Rattle.pin_table.specs.Lists.{Gathered, first_passes}
use Rattle.pin_table.specs.Values.{PassView, WriterView}
use Rattle.shared_cache.specs.LockInvariant.{Settled}

-- what contracts see of it: its table, its shape, and how many events each worker may make
pub record Opened : Type 0 where
  pub table : TableId
  pub conf : Conf
  pub budgets : List ℕ

-- each worker may make an event, and all together no more than the journal can hold
pub record AreBudgets (budgets : List ℕ) : Type 0 where
  pub each : (w : ℕ) → w < length budgets → 0 < slice_index budgets w
  pub limited : sum budgets ≤ MOST_EVENTS

-- a cache of this shape can be opened for workers with these budgets
pub record MayOpen (conf : Conf) (budgets : List ℕ) : Type 0 where
  pub good : IsGood conf
  pub few : length budgets ≤ MOST_WORKERS
  pub budgets_are : AreBudgets budgets

-- It is as the lock keeps it, without an event; no worker has begun or ended.
pub record IsFreshCache (o : Opened) (s : WriterView) (core : Core) (journal : Marks)
    (passes : List PassView) (ended : Gathered) : Type 0 where
  pub settled : Settled o.table o.conf o.budgets s core journal
  pub no_event : s.state.log.history ≡ []
  pub passes_are : passes ≡ first_passes o.table o.budgets (length o.budgets)
  pub none_ended : ended.ended ≡ []
  pub seats : length o.budgets ≤ ended.room
