-- Value graphs: a list of places, numbered from 1 in the order in which they are written.
use Rattle.std.specs.Prelude.{◌≡◌, ℕ, zero, suc, ◌+◌, ◌-◌, ◌<◌, ◌≤◌, Bool, true, false, ◌&&◌, ◌||◌}
use Rattle.std.specs.Prelude.{not, nat_lt, nat_le, ◌==◌, if◌then◌else◌, IsTrue, List, [], ◌∷◌}
use Rattle.std.specs.Prelude.{length, map, take, drop, sum_by, count_by, slice_get, Option, Some}
use Rattle.std.specs.Prelude.{None, FitsSigned}
use Rattle.std.specs.Option.{option_and_then, option_map, is_none}
use Rattle.std.specs.List.{AllByRecursion, list_all, list_any}
use Rattle.std.specs.Ordering.{int_eq}
use Rattle.std.specs.Int.{w64}
use Rattle.std.specs.Cmp.Lexicographic.{pointwise}
use Rattle.php_graph.specs.declared.key.Key.{Key}
use Rattle.php_graph.specs.declared.key.Key.TheVariants as keys
use Rattle.php_graph.specs.declared.child.Child.{Child}
use Rattle.php_graph.specs.declared.child.Child.TheVariants.{Own, Back}
use Rattle.php_graph.specs.declared.kind.Kind.{Kind}
use Rattle.php_graph.specs.declared.kind.Kind.TheVariants as kinds
use Rattle.php_graph.specs.ByteStrings.{AreBytes}
use Rattle.php_graph.specs.Numbers.{int_of_text}
use Rattle.php_graph.specs.declared.builder.TheConstants.{LEVELS, MOST_VALUES}

-- ---- places and members

-- what is at place k, counted from 1
abbrev pub kind_at : List Kind → ℕ → Option Kind
kind_at g zero = None
kind_at g (suc k) = slice_get g k

-- what the members of an array or an object hold, in their order
abbrev pub children_of : Kind → List Child
children_of (kinds.Array ms) = map (λ m. m.1) ms
children_of (kinds.Object class ps) = map (λ p. p.1) ps
children_of _ = []

-- the keys of an array, the names of an object
abbrev pub keys_of : Kind → List Key
keys_of (kinds.Array ms) = map (λ m. m.0) ms
keys_of (kinds.Object class ps) = map (λ p. keys.Str p.0) ps
keys_of _ = []

abbrev pub is_array : Kind → Bool
is_array (kinds.Array ms) = true
is_array _ = false

abbrev pub is_object : Kind → Bool
is_object (kinds.Object class ps) = true
is_object _ = false

abbrev pub passes : (Kind → Bool) → Option Kind → Bool
passes test None = false
passes test (Some kind) = test kind

abbrev pub is_array_at : List Kind → ℕ → Bool
is_array_at g k = passes is_array (kind_at g k)

abbrev pub is_object_at : List Kind → ℕ → Bool
is_object_at g k = passes is_object (kind_at g k)

-- ---- where values end

-- The number after some members: each in turn moves the next number on.
abbrev pub ends_after : (Child → ℕ → Option ℕ) → List Child → ℕ → Option ℕ
ends_after end [] m = Some m
ends_after end (c ∷ cs) m = option_and_then (ends_after end cs) (end c m)

-- The number after a member, if m is the next number. A value that is written there has the place
-- m, and its own members follow. One that is shared takes no number, and names one that was taken
-- before. None if a number is another one, and if members are nested deeper than the levels.
unfoldable pub child_end : ℕ → List Kind → Child → ℕ → Option ℕ
child_end zero g c m = None
child_end (suc level) g (Own x) m =
    if x == m
    then option_and_then
    (λ kind. ends_after (child_end level g) (children_of kind) (m + 1)) (kind_at g m)
    else None
child_end (suc level) g (Back x) m = if nat_le 1 x && nat_lt x m then Some m else None

-- how deep values may be nested: the innermost lies inside 511 containers
abbrev pub levels : ℕ
levels = LEVELS

-- the number after the value that is written at place k
unfoldable pub end_of : List Kind → ℕ → Option ℕ
end_of g k = child_end levels g (Own k) k

-- ---- what holds of each place

abbrev pub key_eq : Key → Key → Bool
key_eq (keys.Int a) (keys.Int b) = int_eq a b
key_eq (keys.Str a) (keys.Str b) = pointwise ◌==◌ a b
key_eq _ _ = false

-- whether the key is among them
abbrev pub holds_key : List Key → Key → Bool
holds_key ks k = list_any (key_eq k) ks

-- no key equals one after it
abbrev pub are_distinct : List Key → Bool
are_distinct [] = true
are_distinct (k ∷ ks) = not (holds_key ks k) && are_distinct ks

-- An array's key is an integer, or a byte string that is no integer's decimal.
abbrev pub is_array_key : Key → Bool
is_array_key (keys.Int n) = true
is_array_key (keys.Str bytes) = is_none (int_of_text bytes)

-- 0-9, A-Z, a-z, '_', '\', and from 0x7F on
abbrev pub is_class_byte : ℕ → Bool
is_class_byte b =
    (nat_le 48 b && nat_le b 57)
    || ((nat_le 65 b && nat_le b 90)
    || ((nat_le 97 b && nat_le b 122)
    || (b == 95 || (b == 92 || nat_le 127 b))))

-- the name of a class
abbrev pub is_class : List ℕ → Bool
is_class bytes = not (length bytes == 0) && list_all is_class_byte bytes

-- keys and names are there once, and are valid, and so is a class
abbrev pub is_well_formed : Kind → Bool
is_well_formed (kinds.Array ms) =
    are_distinct (map (λ m. m.0) ms) && list_all (λ m. is_array_key m.0) ms
is_well_formed (kinds.Object class ps) = are_distinct (map (λ p. keys.Str p.0) ps) && is_class class
is_well_formed _ = true

-- a number of 64 bits, or a byte string
abbrev pub FitsKey : Key → Type 0
FitsKey (keys.Int n) = FitsSigned w64 n
FitsKey (keys.Str bytes) = AreBytes bytes

-- numbers are of 64 bits, and byte strings have fewer than 2^32 bytes
abbrev pub FitsKind : Kind → Type 0
FitsKind (kinds.Int n) = FitsSigned w64 n
FitsKind (kinds.Str bytes) = AreBytes bytes
FitsKind (kinds.Array ms) = AllByRecursion (λ m. FitsKey m.0) ms
FitsKind (kinds.Object class ps) = AreBytes class × AllByRecursion (λ p. AreBytes p.0) ps
FitsKind _ = Unit {0}

-- ---- graphs

abbrev pub is_back : Child → Bool
is_back (Own x) = false
is_back (Back x) = true

-- values: each place, and each member that shares one
abbrev pub values_in : List Kind → ℕ
values_in g = length g + sum_by (λ kind. count_by is_back (children_of kind)) g

-- how many values a graph may have
abbrev pub most_values : ℕ
most_values = MOST_VALUES

-- The places are those of one value, the one at place 1.
pub record IsGraph (g : List Kind) : Type 0 where
  pub sealed : end_of g 1 ≡ Some (length g + 1)
  -- a place that names an object names one that began before
  pub targets : (p x : ℕ) → kind_at g p ≡ Some (kinds.Same x) → (x < p) × IsTrue (is_object_at g x)
  pub well_formed : AllByRecursion (λ kind. IsTrue (is_well_formed kind)) g
  pub fits : AllByRecursion FitsKind g
  pub count : values_in g ≤ most_values

-- ---- parts

-- a number lowered by this amount, and none below 1
abbrev pub lowered_number : ℕ → ℕ → Option ℕ
lowered_number by x = if nat_lt by x then Some (x - by) else None

abbrev pub lowered_child : ℕ → Child → Option Child
lowered_child by (Own x) = option_map Own (lowered_number by x)
lowered_child by (Back x) = option_map Back (lowered_number by x)

-- each member with its child lowered, if all of them can be
abbrev pub lowered_members : {A : Type 0} → ℕ → List (A × Child) → Option (List (A × Child))
lowered_members by [] = Some []
lowered_members by (m ∷ ms) =
    option_and_then
    (λ c. option_map (λ others. (m.0, c) ∷ others) (lowered_members by ms))
    (lowered_child by m.1)

abbrev pub lowered_kind : ℕ → Kind → Option Kind
lowered_kind by (kinds.Array ms) = option_map kinds.Array (lowered_members by ms)
lowered_kind by (kinds.Object class ps) = option_map (kinds.Object class) (lowered_members by ps)
lowered_kind by (kinds.Same x) = option_map kinds.Same (lowered_number by x)
lowered_kind by kind = Some kind

abbrev pub lowered_places : ℕ → List Kind → Option (List Kind)
lowered_places by [] = Some []
lowered_places by (kind ∷ ks) =
    option_and_then
    (λ k. option_map (λ others. k ∷ others) (lowered_places by ks))
    (lowered_kind by kind)

-- The places of the value that is written at place k, as a graph of their own: all numbers are
-- lowered by k - 1. None if one of them names a place outside that value.
unfoldable pub part_of : List Kind → ℕ → Option (List Kind)
part_of g k =
    option_and_then (λ e. lowered_places (k - 1) (take (e - k) (drop (k - 1) g))) (end_of g k)
