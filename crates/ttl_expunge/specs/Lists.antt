-- Definitions on lists of rows.
use Rattle.std.specs.Prelude.{◌≡◌, ℕ, ◌≤◌, if◌then◌else◌, List, [], ◌∷◌, map, Contains}
use Rattle.std.specs.List.{count_by}
use Rattle.apcu_model.specs.Cache.{Row}
use Rattle.entry_slots.specs.Lists.{is_at}

-- the rows from the one at this place on
abbrev pub rows_from : ℕ → List Row → List Row
rows_from at [] = []
rows_from at (row ∷ rows) = if is_at at row then row ∷ rows else rows_from at rows

-- the places of the rows, in their order
abbrev pub row_places : List Row → List ℕ
row_places rows = map {A = Row} (λ row. row.place) rows

-- these are rows of a list, each of them once, and these are their places, in their order
pub record AreRowsAt (rows : List Row) (places : List ℕ) (some : List Row) : Type 0 where
  pub places_are : row_places some ≡ places
  pub there : (row : Row) → Contains some row → Contains rows row
  pub once : (at : ℕ) → count_by (is_at at) some ≤ 1
