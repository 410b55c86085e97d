-- PHP's serialize notation: the one text of each value.
use Rattle.std.specs.Prelude.{◌≡◌, ℕ, zero, suc, ◌+◌, if◌then◌else◌, List, [], ◌∷◌, ◌++◌, length}
use Rattle.std.specs.Prelude.{map, codes, Option, Some, None, ℤ}
use Rattle.std.specs.Fmt.{decimal, signed_decimal}
use Rattle.php_graph.specs.declared.key.Key.{Key}
use Rattle.php_graph.specs.declared.key.Key.TheVariants as keys
use Rattle.php_graph.specs.declared.child.Child.{Child}
use Rattle.php_graph.specs.declared.child.Child.TheVariants.{Own, Back}
use Rattle.php_graph.specs.declared.kind.Kind.{Kind}
use Rattle.php_graph.specs.declared.kind.Kind.TheVariants as kinds
use Rattle.php_graph.specs.Graph.{kind_at, levels, IsGraph}
use Rattle.php_graph.specs.Building.{named}

-- an integer: its canonical decimal
abbrev pub integer_text : ℤ → List ℕ
integer_text n = codes "i:" ++ signed_decimal n ++ codes ";"

-- a string: its length in bytes, and the bytes between quotes
abbrev pub string_text : List ℕ → List ℕ
string_text bytes = codes "s:" ++ decimal (length bytes) ++ codes ":\"" ++ bytes ++ codes "\";"

abbrev pub key_text : Key → List ℕ
key_text (keys.Int n) = integer_text n
key_text (keys.Str bytes) = string_text bytes

-- what precedes the members: their number
abbrev pub array_head : ℕ → List ℕ
array_head count = codes "a:" ++ decimal count ++ codes ":{"

-- for an object the class before that
abbrev pub object_head : List ℕ → ℕ → List ℕ
object_head class count =
    codes "O:" ++ decimal (length class) ++ codes ":\"" ++ class ++ codes "\":" ++ decimal count
    ++ codes ":{"

-- the members in their order: each key, and the text of what it holds
abbrev pub member_texts : (Child → List ℕ) → List (Key × Child) → List ℕ
member_texts written [] = []
member_texts written (m ∷ ms) = key_text m.0 ++ (written m.1 ++ member_texts written ms)

-- A place, where this is the text of what its members hold. The base is added to the number of a
-- place.
abbrev pub kind_text : ℕ → (Child → List ℕ) → Option Kind → List ℕ
kind_text base written None = []
kind_text base written (Some kinds.Null) = codes "N;"
kind_text base written (Some (kinds.Bool b)) = if b then codes "b:1;" else codes "b:0;"
kind_text base written (Some (kinds.Int n)) = integer_text n
kind_text base written (Some (kinds.Str bytes)) = string_text bytes
kind_text base written (Some (kinds.Array ms)) =
    array_head (length ms) ++ (member_texts written ms ++ codes "}")
kind_text base written (Some (kinds.Object class ps)) =
    object_head class (length ps) ++ (member_texts written (map named ps) ++ codes "}")
kind_text base written (Some (kinds.Same x)) = codes "r:" ++ decimal (x + base) ++ codes ";"

-- What a member holds, as far as the levels go: the value that is written there, or the number of
-- the place that it shares.
unfoldable pub child_text : ℕ → ℕ → List Kind → Child → List ℕ
child_text zero base g c = []
child_text (suc level) base g (Own x) = kind_text base (child_text level base g) (kind_at g x)
child_text (suc level) base g (Back x) = codes "R:" ++ decimal (x + base) ++ codes ";"

-- the text of a value whose places have numbers above the base
abbrev pub text_from : ℕ → List Kind → List ℕ
text_from base g = child_text levels base g (Own 1)

-- the text of a value
abbrev pub text_of : List Kind → List ℕ
text_of g = text_from 0 g

-- the bytes are the text of this value
pub record IsSpellingOf (bytes : List ℕ) (g : List Kind) : Type 0 where
  pub graph : IsGraph g
  pub text : bytes ≡ text_of g
