-- What is read of an image before its places have numbers: an offset replaces each place's number
-- of the graph.
use Rattle.std.specs.Prelude.{◌≡◌, ℕ, ◌<◌, ◌≤◌, ◌^◌, List, ◌++◌, length, map, slice_index}
use Rattle.std.specs.Prelude.{◌+◌, Option, Some, None, slice_get, FitsSigned}
use Rattle.std.specs.List.{flat_map, AllByRecursion}
use Rattle.std.specs.Int.{w64}
use Rattle.php_graph.specs.declared.key.Key.{Key}
use Rattle.php_graph.specs.declared.child.Child.{Child}
use Rattle.php_graph.specs.declared.child.Child.TheVariants.{Own, Back}
use Rattle.php_graph.specs.declared.kind.Kind.{Kind}
use Rattle.php_graph.specs.declared.kind.Kind.TheVariants as kinds
use Rattle.php_graph.specs.ByteStrings.{AreBytes}
use Rattle.php_graph.specs.Graph.{FitsKey, IsGraph}
use Rattle.php_graph.specs.Size.{offset_of, image_length}
use Rattle.php_graph.specs.PlaceOffsets.{offsets_from}
use Rattle.value_image.specs.Rows.{IsToldAt}
use Rattle.value_image.specs.Places.{number_of}
use Rattle.value_image.specs.Image.{string_words, key_words, member_words, property_words}
use Rattle.value_image.specs.Image.{kind_words}

-- ---- other numbers

-- each number in it replaced
abbrev pub renumbered_child : (ℕ → ℕ) → Child → Child
renumbered_child f (Own x) = Own (f x)
renumbered_child f (Back x) = Back (f x)

abbrev pub renumbered_member : {A : Type 0} → (ℕ → ℕ) → A × Child → A × Child
renumbered_member f m = (m.0, renumbered_child f m.1)

abbrev pub renumbered_kind : (ℕ → ℕ) → Kind → Kind
renumbered_kind f (kinds.Array ms) = kinds.Array (map (renumbered_member f) ms)
renumbered_kind f (kinds.Object class ps) = kinds.Object class (map (renumbered_member f) ps)
renumbered_kind f (kinds.Same x) = kinds.Same (f x)
renumbered_kind f kind = kind

-- an offset as it is
abbrev pub itself : ℕ → ℕ
itself x = x

-- the table has the number of each place at the place's offset
abbrev pub IsTableOf : List ℕ → List Kind → Type 0
IsTableOf table g =
    (k : ℕ) → 1 ≤ k → k ≤ length g
    → (offset_of g k < length table) × (slice_index table (offset_of g k) ≡ k)

-- ---- what is in a row

abbrev pub FitsMember : Key × Child → Type 0
FitsMember m = FitsKey m.0 × (number_of m.1 < 2 ^ 32)

abbrev pub FitsProperty : List ℕ × Child → Type 0
FitsProperty p = AreBytes p.0 × (number_of p.1 < 2 ^ 32)

-- numbers are of 64 bits, byte strings have fewer than 2^32 bytes, and offsets are of 32 bits
abbrev pub FitsRead : Kind → Type 0
FitsRead (kinds.Int n) = FitsSigned w64 n
FitsRead (kinds.Str bytes) = AreBytes bytes
FitsRead (kinds.Array ms) = AllByRecursion FitsMember ms
FitsRead (kinds.Object class ps) = AreBytes class × AllByRecursion FitsProperty ps
FitsRead (kinds.Same x) = x < 2 ^ 32
FitsRead _ = Unit {0}

-- a byte string is in the row, and is told
pub record IsStringAt (row windows : List ℕ) (at : ℕ) (bytes : List ℕ) : Type 0 where
  pub told : IsToldAt row windows at (string_words bytes)
  pub fits : AreBytes bytes

-- the same for a key
pub record IsKeyAt (row windows : List ℕ) (at : ℕ) (key : Key) : Type 0 where
  pub told : IsToldAt row windows at (key_words key)
  pub fits : FitsKey key

-- the same for a member of an array, with an offset
pub record IsMemberAt (row windows : List ℕ) (at : ℕ) (m : Key × Child) : Type 0 where
  pub told : IsToldAt row windows at (member_words itself m)
  pub fits : FitsMember m

-- the same for a property of an object, with an offset
pub record IsPropertyAt (row windows : List ℕ) (at : ℕ) (p : List ℕ × Child) : Type 0 where
  pub told : IsToldAt row windows at (property_words itself p)
  pub fits : FitsProperty p

-- the same for all members of an array
pub record AreMembersAt (row windows : List ℕ) (at count : ℕ) (ms : List (Key × Child))
    : Type 0 where
  pub told : IsToldAt row windows at (flat_map (member_words itself) ms)
  pub fits : AllByRecursion FitsMember ms
  pub count_is : count ≡ length ms

-- the same for all properties of an object
pub record ArePropertiesAt (row windows : List ℕ) (at count : ℕ) (ps : List (List ℕ × Child))
    : Type 0 where
  pub told : IsToldAt row windows at (flat_map (property_words itself) ps)
  pub fits : AllByRecursion FitsProperty ps
  pub count_is : count ≡ length ps

-- the same for a place, with offsets
pub record IsKindAt (row windows : List ℕ) (at : ℕ) (kind : Kind) : Type 0 where
  pub told : IsToldAt row windows at (kind_words itself kind)
  pub fits : FitsRead kind

-- the same for the class and the properties of an object
pub record IsObjectAt (row windows : List ℕ) (at count : ℕ) (class : List ℕ)
    (ps : List (List ℕ × Child)) : Type 0 where
  pub told : IsToldAt row windows at (string_words class ++ flat_map (property_words itself) ps)
  pub fits_class : AreBytes class
  pub fits : AllByRecursion FitsProperty ps
  pub count_is : count ≡ length ps

-- null, a boolean or an integer that is at a place, and the place after it
abbrev pub scalar_at : ℕ → Kind → Option (Kind × ℕ)
scalar_at at kinds.Null = Some (kinds.Null, at + 1)
scalar_at at (kinds.Bool b) = Some (kinds.Bool b, at + 1)
scalar_at at (kinds.Int n) = Some (kinds.Int n, at + 2)
scalar_at at _ = None

-- ---- whole images

-- each number in it is below n
abbrev pub AllBelow : {A : Type 0} → ℕ → List (A × Child) → Type 0
AllBelow {A = A} n ms = (i : ℕ) (m : A × Child) → slice_get ms i ≡ Some m → number_of m.1 < n

abbrev pub IsBelow : ℕ → Kind → Type 0
IsBelow n (kinds.Array ms) = AllBelow n ms
IsBelow n (kinds.Object class ps) = AllBelow n ps
IsBelow n (kinds.Same x) = x < n
IsBelow n _ = Unit {0}

-- what was read is the graph with offsets instead of numbers, and the offsets of its places
pub record IsReadOf (places : List Kind) (offsets : List ℕ) (len : ℕ) (g : List Kind) : Type 0 where
  pub graph : IsGraph g
  pub places_are : places ≡ map (renumbered_kind (offset_of g)) g
  pub offsets_are : offsets ≡ offsets_from 0 g
  pub len_is : len ≡ image_length g
