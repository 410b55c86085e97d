-- Values that are returned at once, and windows.
use Rattle.std.specs.Prelude.{◌≡◌, ℕ, true, false, List, Contains}
use Rattle.seg_words.specs.Windows.{is_named}
use Rattle.apcu_model.specs.Cache.{Row}
use Rattle.apcu_model.specs.History.{is_scalar}

-- No window names the block of a row whose value is null, a boolean or an integer: such a value is
-- never copied outside an event.
pub record NameNoScalar (windows : List ℕ) (rows : List Row) : Type 0 where
  pub each : (row : Row) → Contains rows row → is_scalar row.graph ≡ true
      → is_named windows row.place ≡ false
