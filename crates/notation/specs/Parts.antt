-- The parts of a place's text: what precedes its members, and the text from a member on.
use Rattle.std.specs.Prelude.{ℕ, List, [], ◌++◌, length, map, drop, codes, Option, Some, None}
use Rattle.std.specs.Fmt.{decimal}
use Rattle.php_graph.specs.declared.key.Key.{Key}
use Rattle.php_graph.specs.declared.child.Child.{Child}
use Rattle.php_graph.specs.declared.kind.Kind.{Kind}
use Rattle.php_graph.specs.declared.kind.Kind.TheVariants as kinds
use Rattle.php_graph.specs.Building.{named}
use Rattle.notation.specs.Notation.{kind_text, member_texts, array_head, object_head}

-- what precedes the bytes of a string: their number
abbrev pub string_head : ℕ → List ℕ
string_head count = codes "s:" ++ decimal count ++ codes ":\""

-- the members of a container, each name as a key
abbrev pub members_of : Kind → List (Key × Child)
members_of (kinds.Array ms) = ms
members_of (kinds.Object class ps) = map named ps
members_of _ = []

-- a place up to its members
abbrev pub start_text : ℕ → Kind → List ℕ
start_text base (kinds.Array ms) = array_head (length ms)
start_text base (kinds.Object class ps) = object_head class (length ps)
start_text base kind = kind_text base (λ c. []) (Some kind)

-- the members from this one on, and the end of their container
abbrev pub members_rest_text : (Child → List ℕ) → ℕ → List (Key × Child) → List ℕ
members_rest_text written i ms = member_texts written (drop i ms) ++ codes "}"

abbrev pub frame_text : (Child → List ℕ) → ℕ → Option Kind → List ℕ
frame_text written i None = []
frame_text written i (Some kind) = members_rest_text written i (members_of kind)
