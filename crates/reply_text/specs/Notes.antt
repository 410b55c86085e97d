-- Results that are noted for keys, and the place of each key's result.
use Rattle.std.specs.Prelude.{◌≡◌, ℕ, suc, if◌then◌else◌, List, [], ◌∷◌, map, Option, Some, None}
use Rattle.std.specs.Borrow.{Bor}
use Rattle.std.specs.Option.{option_map}
use Rattle.std.specs.Str.{bytes_eq}
use Rattle.std.specs.BTreeMap.{BTreeMap, get}
use Rattle.std.specs.Cmp.Lexicographic.{slice_cmp}
use Rattle.std.specs.Ordering.{nat_cmp}
use Rattle.php_graph.specs.declared.kind.Kind.{Kind}

-- the place of the result of a key
abbrev pub note_of : {A : Type 0} → List ℕ → List (List ℕ × A) → Option ℕ
note_of key [] = None
note_of key (m ∷ ms) = if bytes_eq m.0 key then Some 0 else option_map suc (note_of key ms)

-- the map has it for each key
abbrev pub KnowsNotes : {A : Type 0} → List (List ℕ × A) → BTreeMap (List ℕ) ℕ → Type 0
KnowsNotes notes places = (key : List ℕ) → get (slice_cmp nat_cmp) places key ≡ note_of key notes

-- values that are noted by reference
abbrev pub lent_notes : List (List ℕ × Bor (List Kind)) → List (List ℕ × List Kind)
lent_notes notes = map (λ (note : List ℕ × Bor (List Kind)). (note.0, note.1.now)) notes
