-- How a bundle is written.
use Rattle.std.specs.Prelude.{◌≡◌, ℕ, List, [], ◌∷◌, ◌++◌, codes}
use Rattle.std.specs.List.{flat_map, AllByRecursion}
use Rattle.php_graph.specs.declared.kind.Kind.{Kind}
use Rattle.php_graph.specs.declared.kind.Kind.TheVariants as kinds
use Rattle.php_graph.specs.Graph.{IsGraph}
use Rattle.notation.specs.Notation.{text_of}

-- a key with its value
abbrev pub Record : Type 0
Record = List ℕ × List Kind

-- the value that a key is: a string
abbrev pub key_value : List ℕ → List Kind
key_value key = kinds.Str key ∷ []

-- the key, a space, the value and a line feed
abbrev pub record_text : Record → List ℕ
record_text r = text_of (key_value r.0) ++ (codes " " ++ (text_of r.1 ++ codes "\n"))

abbrev pub IsRecord : Record → Type 0
IsRecord r = IsGraph (key_value r.0) × IsGraph r.1

-- the bytes are these records, one after the other
pub record AreRecords (bytes : List ℕ) (records : List Record) : Type 0 where
  pub text : bytes ≡ flat_map record_text records
  pub values : AllByRecursion IsRecord records
