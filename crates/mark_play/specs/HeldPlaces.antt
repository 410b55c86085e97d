-- Which block is held for a worker.
use Rattle.std.specs.Prelude.{◌≡◌, ◌≢◌, ℕ, List, Option, Some, None, Contains}
use Rattle.apcu_model.specs.Cache.{Row}
use Rattle.mark_play.specs.declared.answering.Window.{Window}

-- the row of the window's number, if it is among these rows, has the window's key
abbrev pub HasKeyIn : List Row → Window → Type 0
HasKeyIn rows w = (row : Row) → Contains rows row → row.number ≡ w.number → row.key ≡ w.key

-- the place of a row of this number; 0 only if there is none
pub record IsRowPlace (rows : List Row) (number at : ℕ) : Type 0 where
  pub there : at ≢ 0
      → (row : Row) × Contains rows row × (row.number ≡ number) × (row.place ≡ at)
  pub none : at ≡ 0 → (row : Row) → Contains rows row → row.number ≢ number

-- the place that is held for a worker with this window
abbrev pub IsHeldFor : List Row → Option Window → ℕ → Type 0
IsHeldFor rows None at = at ≡ 0
IsHeldFor rows (Some w) at = IsRowPlace rows w.number at
