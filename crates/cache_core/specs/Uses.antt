-- Look-ups that are counted later, all of one moment.
use Rattle.std.specs.Prelude.{◌≡◌, ℕ, ⊤, List, [], ◌∷◌, Option, Some, None, option_map, map}
use Rattle.php_graph.specs.declared.kind.Kind.{Kind}
use Rattle.apcu_model.specs.Cache.{Row, Cache, risen}
use Rattle.apcu_model.specs.Expiry.{live_row}
use Rattle.apcu_model.specs.Lookups.{looked_up}
use Rattle.entry_slots.specs.Entries.{touched_row}

-- the cache that fetches of these keys leave, one after the other
abbrev pub fetched : List (List ℕ) → ℕ → Cache → Cache
fetched [] t c = c
fetched (key ∷ keys) t c = fetched keys t (looked_up key t (live_row key t c) c)

-- the place of the block of the row that a look-up of the key finds
abbrev pub found_place : List ℕ → ℕ → Cache → Option ℕ
found_place key t c = option_map (λ (row : Row). row.place) (live_row key t c)

-- what a look-up returns depends on: the place and the value of the row that it finds
abbrev pub seen_in : Option Row → Option (ℕ × List Kind)
seen_in found = option_map (λ (row : Row). (row.place, row.graph)) found

-- each look-up of a key finds the row at its place in the other list
abbrev pub AreFoundAt : List (List ℕ) → ℕ → Cache → List ℕ → Type 0
AreFoundAt [] t c [] = ⊤
AreFoundAt (key ∷ keys) t c (at ∷ places) =
    (found_place key t c ≡ Some at) × AreFoundAt keys t c places
AreFoundAt _ t c _ = ⊥

-- each look-up of a key finds none
abbrev pub AreMissed : List (List ℕ) → ℕ → Cache → Type 0
AreMissed [] t c = ⊤
AreMissed (key ∷ keys) t c = (live_row key t c ≡ None) × AreMissed keys t c

-- the row at this place was used, and a hit is counted
abbrev pub used_at : ℕ → ℕ → Cache → Cache
used_at at t c = record c {
  rows = map {A = Row} {B = Row} (touched_row at t) c.rows;
  hits = risen c.hits;
}
