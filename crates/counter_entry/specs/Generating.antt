-- What a generator's look-ups find, and what happened to its value.
use Rattle.std.specs.Prelude.{ℕ, List, [], ◌∷◌, Option, Some, None}
use Rattle.std.specs.Prelude.{option_map}
use Rattle.apcu_model.specs.declared.request.StoreAnswer.{StoreAnswer}
use Rattle.apcu_model.specs.Levels.{EntryLevel}
use Rattle.apcu_model.specs.Cache.{Row, Cache}
use Rattle.apcu_model.specs.Expiry.{live_row}
use Rattle.apcu_model.specs.Sequential.{is_stored}
use Rattle.counter_entry.specs.declared.answer.Fate.{Fate}
use Rattle.counter_entry.specs.declared.answer.Fate.TheVariants.{Found, Made}

-- the row, or else the other one
abbrev pub first_row : Option Row → Option Row → Option Row
first_row (Some row) other = Some row
first_row None other = other

-- the live row of the first of the keys that has one
abbrev pub row_under : List EntryLevel → ℕ → Cache → Option Row
row_under [] t c = None
row_under (level ∷ levels) t c = first_row (live_row level.key t c) (row_under levels t c)

-- the place of its block
abbrev pub place_under : List EntryLevel → ℕ → Cache → Option ℕ
place_under levels t c = option_map (λ (row : Row). row.place) (row_under levels t c)

-- nothing was to be stored, or whether the value is now stored, by the last result
abbrev pub fate_of : Option StoreAnswer → Fate
fate_of None = Found
fate_of (Some answer) = Made (is_stored answer)
