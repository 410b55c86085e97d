-- The places of removed rows.
use Rattle.std.specs.Prelude.{◌≡◌, ℕ, ◌<◌, ◌≤◌, ◌==◌, List, length, slice_index}
use Rattle.std.specs.List.{list_any}
use Rattle.apcu_model.specs.Cache.{Row}
use Rattle.entry_slots.specs.Lists.{has_place}

-- these are the places of the rows, in rising order
pub record ArePlaces (places : List ℕ) (rows : List Row) : Type 0 where
  pub same : (at : ℕ) → list_any (λ place. place == at) places ≡ has_place at rows
  pub rising : (i j : ℕ) → i ≤ j → j < length places
      → slice_index places i ≤ slice_index places j
