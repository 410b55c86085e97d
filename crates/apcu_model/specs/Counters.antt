-- Integers under keys: those that are counted, and those that are replaced if they are the expected
-- one.
use Rattle.std.specs.Prelude.{ℕ, ℤ, Bool, false, if◌then◌else◌, List, [], ◌∷◌, map, Option, Some}
use Rattle.std.specs.Prelude.{None}
use Rattle.std.specs.Int.{w64, int_wrapping_add}
use Rattle.std.specs.Ordering.{int_eq}
use Rattle.php_graph.specs.declared.kind.Kind.{Kind}
use Rattle.php_graph.specs.declared.kind.Kind.TheVariants as kinds
use Rattle.apcu_model.specs.declared.request.StoreAnswer.{StoreAnswer}
use Rattle.apcu_model.specs.declared.request.StoreAnswer.TheVariants as answers
use Rattle.apcu_model.specs.Cache.{Row, Cache, has_key}
use Rattle.apcu_model.specs.Expiry.{live_row}
use Rattle.apcu_model.specs.Change.{Insertion, inserted}

abbrev pub integer_kind : Kind → Option ℤ
integer_kind (kinds.Int n) = Some n
integer_kind _ = None

-- the integer that a value is, if its first place is one
abbrev pub integer_in : List Kind → Option ℤ
integer_in [] = None
integer_in (kind ∷ places) = integer_kind kind

-- the signed 64-bit sum: it wraps after the maximum
abbrev pub sum_of : ℤ → ℤ → ℤ
sum_of n step = int_wrapping_add w64 n step

-- the row holds this integer, set at the moment t; that is no use of it, and its ttl is unchanged
abbrev pub with_integer : ℤ → ℕ → Row → Row
with_integer n t row = record row { graph = kinds.Int n ∷ []; mtime = t }

-- the row of the key holds it, and each other is unchanged
abbrev pub with_integer_at : List ℕ → ℤ → ℕ → Row → Row
with_integer_at key n t row = if has_key key row then with_integer n t row else row

abbrev pub integer_set : List ℕ → ℤ → ℕ → Cache → Cache
integer_set key n t c = record c { rows = map {A = Row} {B = Row} (with_integer_at key n t) c.rows }

-- the result of counting: the counter's new value, if any, and the cache after it
pub record Count : Type 0 where
  pub number : Option ℤ
  pub cache : Cache

-- an existing value: the step is added to an integer, any other is unchanged and gives no number
abbrev pub counted_on : List ℕ → ℤ → ℕ → Cache → Option ℤ → Count
counted_on key step t c (Some n) = record {
  number = Some (sum_of n step);
  cache = integer_set key (sum_of n step) t c;
}
counted_on key step t c None = record { number = None; cache = c }

-- the number, if it was stored
abbrev pub number_if : ℤ → StoreAnswer → Option ℤ
number_if n answers.Stored = Some n
number_if n answers.TooLarge = None
number_if n answers.Exists = None
number_if n answers.NoRoom = None

-- a new counter: from 0 it counts the step, if it can be stored
abbrev pub begun : ℤ → Insertion → Count
begun step insertion = record {
  number = number_if step insertion.answer;
  cache = insertion.cache;
}

abbrev pub counted_at : List ℕ → List ℕ → ℤ → ℕ → ℕ → Cache → Option Row → Count
counted_at held key step ttl t c (Some row) = counted_on key step t c (integer_in row.graph)
counted_at held key step ttl t c None =
    begun step (inserted held key (kinds.Int step ∷ []) ttl false t c)

-- The counter under a key counts by a step: the row that a look-up finds, which keeps its ttl, or
-- otherwise a new one with this ttl. No hit and no miss is counted.
abbrev pub counted : List ℕ → List ℕ → ℤ → ℕ → ℕ → Cache → Count
counted held key step ttl t c = counted_at held key step ttl t c (live_row key t c)

-- it is this integer
abbrev pub is_integer : ℤ → Option ℤ → Bool
is_integer expect (Some n) = int_eq n expect
is_integer expect None = false

-- the row that was found holds this integer
abbrev pub is_expected : ℤ → Option Row → Bool
is_expected expect (Some row) = is_integer expect (integer_in row.graph)
is_expected expect None = false

-- The integer under a key is set if it is the expected one. Nothing is ever inserted.
abbrev pub swapped : List ℕ → ℤ → ℤ → ℕ → Cache → Cache
swapped key expect set t c =
    if is_expected expect (live_row key t c) then integer_set key set t c else c
