-- The result of a generator: its keys are looked up from the outermost inwards, until one has a
-- live row. The value is that row's, or else the innermost literal; and it is stored under the keys
-- that were missed, inner first. `held` is the list of the places of blocks that are held, t the
-- time.
use Rattle.std.specs.Prelude.{ℕ, true, if◌then◌else◌, List, [], ◌∷◌, Option, Some, None}
use Rattle.std.specs.Prelude.{is_some}
use Rattle.php_graph.specs.declared.kind.Kind.{Kind}
use Rattle.apcu_model.specs.declared.request.StoreAnswer.{StoreAnswer}
use Rattle.apcu_model.specs.Levels.{EntryLevel, Generator}
use Rattle.apcu_model.specs.Cache.{Row, Cache}
use Rattle.apcu_model.specs.Expiry.{live_row}
use Rattle.apcu_model.specs.Lookups.{looked_up}
use Rattle.apcu_model.specs.Change.{Insertion, inserted}

-- the value of the row, or the other if there is none
abbrev pub value_or : Option Row → List Kind → List Kind
value_or (Some row) other = row.graph
value_or None other = other

-- the value of the first of the keys that has a live row, or else the literal
abbrev pub value_under : List EntryLevel → List Kind → ℕ → Cache → List Kind
value_under [] literal t c = literal
value_under (level ∷ levels) literal t c =
    value_or (live_row level.key t c) (value_under levels literal t c)

-- the value of a generator
abbrev pub given_by : Generator → ℕ → Cache → List Kind
given_by g t c = value_under g.levels g.literal t c

-- the keys before the first that has a live row: all of them if none has one
abbrev pub missed_levels : List EntryLevel → ℕ → Cache → List EntryLevel
missed_levels [] t c = []
missed_levels (level ∷ levels) t c =
    if is_some (live_row level.key t c) then [] else level ∷ missed_levels levels t c

-- The keys are looked up in turn, until one has a live row: each that was missed counts a miss, the
-- one that was found a hit, and its row is used.
abbrev pub looked_for : List EntryLevel → ℕ → Cache → Cache
looked_for [] t c = c
looked_for (level ∷ levels) t c =
    let row = live_row level.key t c in
    if is_some row then looked_up level.key t row c
    else looked_for levels t (looked_up level.key t None c)

-- the result of storing under several keys: that of the outermost, if there is any, and the cache
-- after it
pub record Filling : Type 0 where
  pub outermost : Option StoreAnswer
  pub cache : Cache

abbrev pub filling_of : Insertion → Filling
filling_of insertion = record {
  outermost = Some insertion.answer;
  cache = insertion.cache;
}

-- the value is stored under each of the keys, inner first, each with its time to live and never
-- over a live row
abbrev pub filled : List ℕ → List Kind → ℕ → List EntryLevel → Cache → Filling
filled held value t [] c = record { outermost = None; cache = c }
filled held value t (level ∷ levels) c =
    let inner = (filled held value t levels c).cache in
    filling_of (inserted held level.key value level.ttl true t inner)

-- All look-ups are counted before the first insertion, so an expunge sets them to 0. The outermost
-- result is none if nothing was missed.
abbrev pub entered : List ℕ → Generator → ℕ → Cache → Filling
entered held g t c =
    let missed = missed_levels g.levels t c in
    filled held (given_by g t c) t missed (looked_for g.levels t c)
