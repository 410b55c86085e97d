-- The image of a value graph: 64-bit words, its places in the order of their numbers, one right
-- after the other. An offset counts words from the first one of the image.
use Rattle.std.specs.Prelude.{◌≡◌, ℕ, ◌+◌, ◌*◌, if◌then◌else◌, List, [], ◌∷◌, ◌++◌, length, take}
use Rattle.std.specs.Prelude.{drop, Some}
use Rattle.std.specs.List.{flat_map}
use Rattle.std.specs.Int.{w64, cast_unsigned}
use Rattle.php_graph.specs.declared.key.Key.{Key}
use Rattle.php_graph.specs.declared.key.Key.TheVariants as keys
use Rattle.php_graph.specs.declared.child.Child.{Child}
use Rattle.php_graph.specs.declared.child.Child.TheVariants.{Own, Back}
use Rattle.php_graph.specs.declared.kind.Kind.{Kind}
use Rattle.php_graph.specs.declared.kind.Kind.TheVariants as kinds
use Rattle.php_graph.specs.Graph.{IsGraph, kind_at}
use Rattle.php_graph.specs.Size.{cells_of, image_length, offset_of}
use Rattle.value_image.specs.PackedBytes.{words_of}

-- A byte string: a tag with its length, and its bytes.
abbrev pub string_words : List ℕ → List ℕ
string_words bytes = (3 + 8 * length bytes) ∷ words_of bytes

-- A key of an array: an integer as a tag and its two's complement, or a byte string.
abbrev pub key_words : Key → List ℕ
key_words (keys.Int n) = 2 ∷ cast_unsigned w64 n ∷ []
key_words (keys.Str bytes) = string_words bytes

-- What a member holds: twice the offset of the place that it names, plus one if it shares that
-- place.
abbrev pub child_word : (ℕ → ℕ) → Child → ℕ
child_word offset (Own x) = 2 * offset x
child_word offset (Back x) = 2 * offset x + 1

-- a member of an array: what it holds, and its key
abbrev pub member_words : (ℕ → ℕ) → Key × Child → List ℕ
member_words offset m = child_word offset m.1 ∷ key_words m.0

-- a property of an object: what it holds, and its name
abbrev pub property_words : (ℕ → ℕ) → List ℕ × Child → List ℕ
property_words offset p = child_word offset p.1 ∷ string_words p.0

-- What is at a place, with these offsets of the places. The first word is a tag: the kind's code
-- from 0 to 6, plus eight times a boolean, a length in bytes, or a number of members.
abbrev pub kind_words : (ℕ → ℕ) → Kind → List ℕ
kind_words offset kinds.Null = 0 ∷ []
kind_words offset (kinds.Bool b) = (1 + 8 * (if b then 1 else 0)) ∷ []
kind_words offset (kinds.Int n) = 2 ∷ cast_unsigned w64 n ∷ []
kind_words offset (kinds.Str bytes) = string_words bytes
kind_words offset (kinds.Array ms) = (4 + 8 * length ms) ∷ flat_map (member_words offset) ms
kind_words offset (kinds.Object class ps) =
    (5 + 8 * length ps) ∷ string_words class ++ flat_map (property_words offset) ps
kind_words offset (kinds.Same x) = 6 ∷ offset x ∷ []

-- the words of one place of the graph
abbrev pub place_words : List Kind → Kind → List ℕ
place_words g kind = kind_words (offset_of g) kind

-- the words of all its places
unfoldable pub image_of : List Kind → List ℕ
image_of g = flat_map (place_words g) g

-- The len words from place `at` on are the image of the graph: it takes this many words, and each
-- place's words are at the place's offset.
pub record IsImageOf (row : List ℕ) (at len : ℕ) (g : List Kind) : Type 0 where
  pub graph : IsGraph g
  pub length_is : len ≡ image_length g
  pub places : (k : ℕ) (kind : Kind) → kind_at g k ≡ Some kind
      → take (cells_of kind) (drop (at + offset_of g k) row) ≡ place_words g kind
