-- What a builder knows of the keys of an open container.
use Rattle.std.specs.Prelude.{◌≡◌, ℕ, ◌+◌, ◌%◌, ◌^◌, ◌≤◌, Bool, true, nat_lt, if◌then◌else◌, List}
use Rattle.std.specs.Prelude.{[], Option, Some, None}
use Rattle.std.specs.Int.{w64, cast_unsigned}
use Rattle.std.specs.BTreeSet.{BTreeSet, contains}
use Rattle.std.specs.Cmp.Lexicographic.{slice_cmp}
use Rattle.std.specs.Ordering.{nat_cmp, int_cmp}
use Rattle.std.specs.declared.cmp.Ordering.{Ordering}
use Rattle.std.specs.declared.cmp.Ordering.TheVariants.{Less, Greater}
use Rattle.php_graph.specs.declared.key.Key.{Key}
use Rattle.php_graph.specs.declared.key.Key.TheVariants.{Int, Str}
use Rattle.php_graph.specs.declared.container.Seen.{Seen}
use Rattle.php_graph.specs.declared.container.Seen.TheVariants.{Nothing, Marks, Keys}
use Rattle.php_graph.specs.declared.item.BuildFault.{BuildFault}
use Rattle.php_graph.specs.declared.item.BuildFault.TheVariants.{RepeatedKey}
use Rattle.php_graph.specs.Graph.{holds_key}
use Rattle.php_graph.specs.Numbers.{hash_of}

-- integers come before byte strings
abbrev pub key_cmp : Key → Key → Ordering
key_cmp (Int a) (Int b) = int_cmp a b
key_cmp (Int a) (Str b) = Less
key_cmp (Str a) (Int b) = Greater
key_cmp (Str a) (Str b) = slice_cmp nat_cmp a b

-- A key's mark: of an integer its number in their order, from 0, and of a byte string its hash.
-- Equal keys have equal marks.
abbrev pub key_mark : Key → ℕ
key_mark (Int n) = (cast_unsigned w64 n + 2 ^ 63) % 2 ^ 64
key_mark (Str bytes) = hash_of bytes

-- No key's mark is above the highest. If there is none, there is no key.
abbrev pub BoundsKeys : Option ℕ → List Key → Type 0
BoundsKeys None ks = ks ≡ []
BoundsKeys (Some h) ks = (q : Key) → holds_key ks q ≡ true → key_mark q ≤ h

-- whether a mark is above the highest
abbrev pub is_above : Option ℕ → ℕ → Bool
is_above None m = true
is_above (Some h) m = nat_lt h m

-- the highest after this mark was added
abbrev pub raised : Option ℕ → ℕ → Option ℕ
raised highest m = if is_above highest m then Some m else highest

-- the set has the marks of all these keys
abbrev pub HasMarks : List Key → BTreeSet ℕ → Type 0
HasMarks ks set = (q : Key) → holds_key ks q ≡ true → contains nat_cmp set (key_mark q) ≡ true

-- the set has exactly these keys
abbrev pub HasKeys : List Key → BTreeSet Key → Type 0
HasKeys ks set = (q : Key) → contains key_cmp set q ≡ holds_key ks q

-- what is kept of the keys is correct
abbrev pub SeesKeys : Seen → List Key → Type 0
SeesKeys Nothing ks = Unit {0}
SeesKeys (Marks set) ks = HasMarks ks set
SeesKeys (Keys set) ks = HasKeys ks set

-- what is known of the keys ks
pub record KnowsKeys (highest : Option ℕ) (seen : Seen) (ks : List Key) : Type 0 where
  pub bounded : BoundsKeys highest ks
  pub sees : SeesKeys seen ks

-- what is wrong with one more key: it exists already
abbrev pub repeat_fault : List Key → Key → Option BuildFault
repeat_fault ks k = if holds_key ks k then Some RepeatedKey else None
