-- How the writer's open windows are related to the history.
use Rattle.std.specs.Prelude.{◌≡◌, ℕ, ◌<◌, List, ◌++◌, Contains, Some}
use mathlib.Core.Option.{some}
use lib.ListN.{get_elem?}
use Rattle.apcu_model.specs.Cache.{Row}
use Rattle.apcu_model.specs.History.{Stage, window_of}

-- The open window of the worker v names the block of a row or a removed row, whose number is that
-- of the worker's window in the history.
pub record IsTied (m : Stage) (v at : ℕ) : Type 0 where
  pub row : Row
  pub there : Contains (m.cache.rows ++ m.cache.removed) row
  pub place : row.place ≡ at
  pub window : window_of m v ≡ Some row.number

-- the same for each open window; one of 0 is closed
abbrev pub AreTied : Stage → List ℕ → Type 0
AreTied m windows = (v at : ℕ) → get_elem? windows v ≡ some at → 0 < at → IsTied m v at
