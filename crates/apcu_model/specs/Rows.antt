-- What holds of the rows of a cache.
use Rattle.std.specs.Prelude.{ℕ, ◌≡◌, ◌&&◌, not, Bool, true, if◌then◌else◌, List, [], ◌∷◌}
use Rattle.std.specs.List.{list_any}
use Rattle.apcu_model.specs.Cache.{Row, has_key}
use Rattle.apcu_model.specs.Lookups.{touched}

-- no two rows with the same key: each row's key differs from those of the rows after it
abbrev pub are_apart : List Row → Bool
are_apart [] = true
are_apart (row ∷ rows) = not (list_any (has_key row.key) rows) && are_apart rows

-- the key's row was used, and each other is unchanged
abbrev pub touched_at : List ℕ → ℕ → Row → Row
touched_at key t row = if has_key key row then touched t row else row
