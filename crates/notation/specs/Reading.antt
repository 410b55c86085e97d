-- Reading a value from left to right, to its end or to the first fault.
use Rattle.std.specs.Prelude.{ℕ, zero, suc, Bool, true, false, ◌&&◌, ◌||◌, ◌==◌, if◌then◌else◌}
use Rattle.std.specs.Prelude.{List, [], ◌∷◌, Option, Some, None, Result, Ok}
use Rattle.php_graph.specs.declared.key.Key.{Key}
use Rattle.php_graph.specs.declared.key.Key.TheVariants as keys
use Rattle.php_graph.specs.declared.kind.Kind.{Kind}
use Rattle.php_graph.specs.declared.item.Item.{Item}
use Rattle.php_graph.specs.declared.item.Item.TheVariants as items
use Rattle.php_graph.specs.declared.item.Wants.{Wants}
use Rattle.php_graph.specs.declared.item.Wants.TheVariants as wants
use Rattle.php_graph.specs.declared.item.BuildFault.{BuildFault}
use Rattle.php_graph.specs.declared.item.BuildFault.TheVariants as faults
use Rattle.php_graph.specs.Graph.{levels}
use Rattle.php_graph.specs.Building.{Draft, nothing_drafted, wants_of, room_fault, fault_of, pushed}
use Rattle.notation.specs.declared.fault.Reason.{Reason}
use Rattle.notation.specs.declared.fault.Reason.TheVariants.{End, Tag, Depth, Places, Target}
use Rattle.notation.specs.declared.fault.Reason.TheVariants.{Repeat, Class, Integer}
use Rattle.notation.specs.declared.fault.Fault.{Fault}
use Rattle.notation.specs.Marks.{◌>>=◌, fail, mark_at, number_as, as_truth, natural_at, sized_at}
use Rattle.notation.specs.Marks.{string_at, integer_at, count_at}

-- the reason for what a graph that is being written refuses
abbrev pub reason_of : BuildFault → Reason
reason_of faults.Memory = End
reason_of faults.TooDeep = Depth
reason_of faults.TooManyPlaces = Places
reason_of faults.BadNumber = Target
reason_of faults.RepeatedKey = Repeat
reason_of faults.BadClass = Class
reason_of faults.IntegerText = Integer

-- The draft with one more item, or the fault of the item, at these remaining bytes.
abbrev pub put_unless : Option BuildFault → Draft → List ℕ → Result Draft Fault
put_unless None d at = Ok d
put_unless (Some fault) d at = fail (reason_of fault) at

abbrev pub put_at : Draft → Item → List ℕ → Result Draft Fault
put_at d item at = put_unless (fault_of d item) (pushed d item) at

-- What was read of a value: the draft with it, the number of its members if it is a container, and
-- the bytes that are left.
abbrev pub Begun : Type 0
Begun = Draft × Option ℕ × List ℕ

-- ---- what follows the letter of a value

unfoldable pub null_at : Draft → List ℕ → Result Begun Fault
null_at d bytes = do
  rest ← mark_at 59 bytes
  e ← put_at d items.Null bytes
  Ok (e, None, rest)

unfoldable pub truth_at : Draft → List ℕ → Result Begun Fault
truth_at d bytes = do
  number ← mark_at 58 bytes
  truth ← number_as as_truth number
  rest ← mark_at 59 truth.1
  e ← put_at d (items.Bool truth.0) bytes
  Ok (e, None, rest)

unfoldable pub int_at : Draft → List ℕ → Result Begun Fault
int_at d bytes = do
  n ← integer_at bytes
  e ← put_at d (items.Int n.0) bytes
  Ok (e, None, n.1)

unfoldable pub str_at : Draft → List ℕ → Result Begun Fault
str_at d bytes = do
  text ← string_at bytes
  e ← put_at d (items.Str text.0) bytes
  Ok (e, None, text.1)

-- The fault of a place's number is at that number.
unfoldable pub same_at : Draft → List ℕ → Result Begun Fault
same_at d bytes = do
  number ← mark_at 58 bytes
  k ← natural_at number
  rest ← mark_at 59 k.1
  e ← put_at d (items.Same k.0) number
  Ok (e, None, rest)

unfoldable pub back_at : Draft → List ℕ → Result Begun Fault
back_at d bytes = do
  number ← mark_at 58 bytes
  k ← natural_at number
  rest ← mark_at 59 k.1
  e ← put_at d (items.Back k.0) number
  Ok (e, None, rest)

unfoldable pub array_at : Draft → List ℕ → Result Begun Fault
array_at d bytes = do
  n ← count_at bytes
  e ← put_at d items.OpenArray bytes
  Ok (e, Some n.0, n.1)

-- The fault of a class is at the object's letter.
unfoldable pub object_at : Draft → List ℕ → List ℕ → Result Begun Fault
object_at d at bytes = do
  class ← sized_at bytes
  e ← put_at d (items.OpenObject class.0) at
  n ← count_at class.1
  Ok (e, Some n.0, n.1)

-- ---- values

-- by the letter: N b i s a O r R
unfoldable pub tagged_at : Draft → ℕ → List ℕ → Result Begun Fault
tagged_at d tag rest =
    if tag == 78 then null_at d rest
    else if tag == 98 then truth_at d rest
    else if tag == 105 then int_at d rest
    else if tag == 115 then str_at d rest
    else if tag == 97 then array_at d rest
    else if tag == 79 then object_at d (tag ∷ rest) rest
    else if tag == 114 then same_at d rest
    else back_at d rest

abbrev pub is_tag : ℕ → Bool
is_tag b =
    b == 78 || (b == 98 || (b == 105 || (b == 115
    || (b == 97 || (b == 79 || (b == 114 || b == 82))))))

abbrev pub if_room : Option BuildFault → List ℕ → Result Begun Fault → Result Begun Fault
if_room None bytes read = read
if_room (Some fault) bytes read = fail (reason_of fault) bytes

-- A value up to its members. Whether there is room for it is decided once its letter was read.
unfoldable pub begun_at : Draft → List ℕ → Result Begun Fault
begun_at d [] = fail End []
begun_at d (tag ∷ rest) =
    if is_tag tag then if_room (room_fault d) (tag ∷ rest) (tagged_at d tag rest)
    else fail Tag (tag ∷ rest)

-- ---- keys

abbrev pub takes_integers : Wants → Bool
takes_integers wants.ArrayKey = true
takes_integers _ = false

-- what follows the letter of a key: i s
unfoldable pub key_tagged_at : Bool → ℕ → List ℕ → Result (Key × List ℕ) Fault
key_tagged_at integers tag rest =
    if tag == 115 then (string_at rest >>= λ text. Ok (keys.Str text.0, text.1))
    else if tag == 105 && integers then (integer_at rest >>= λ n. Ok (keys.Int n.0, n.1))
    else fail Tag (tag ∷ rest)

-- A key of an array, or a name of an object, by what the innermost container takes. The fault of a
-- key is at its first byte.
unfoldable pub key_at : Draft → List ℕ → Result (Draft × List ℕ) Fault
key_at d [] = fail End []
key_at d (tag ∷ rest) = do
  key ← key_tagged_at (takes_integers (wants_of d)) tag rest
  e ← put_at d (items.Key key.0) (tag ∷ rest)
  Ok (e, key.1)

-- ---- members, and values with them

-- this many members, if this reads what they hold
abbrev pub members_at : (Draft → List ℕ → Result (Draft × List ℕ) Fault) → ℕ → Draft → List ℕ
    → Result (Draft × List ℕ) Fault
members_at value zero d bytes = Ok (d, bytes)
members_at value (suc n) d bytes = do
  key ← key_at d bytes
  held ← value key.0 key.1
  members_at value n held.0 held.1

-- the end of a container
unfoldable pub closed_at : Draft → List ℕ → Result (Draft × List ℕ) Fault
closed_at d bytes = do
  rest ← mark_at 125 bytes
  Ok (pushed d items.Close, rest)

abbrev pub rest_of_value : (Draft → List ℕ → Result (Draft × List ℕ) Fault) → Begun
    → Result (Draft × List ℕ) Fault
rest_of_value value (d, None, bytes) = Ok (d, bytes)
rest_of_value value (d, Some n, bytes) = members_at value n d bytes >>= λ m. closed_at m.0 m.1

-- a value, if this reads what its members hold
abbrev pub value_with : (Draft → List ℕ → Result (Draft × List ℕ) Fault) → Draft → List ℕ
    → Result (Draft × List ℕ) Fault
value_with value d bytes = begun_at d bytes >>= rest_of_value value

-- A value, as far as the levels go. No value is nested deeper: there is no room for it.
unfoldable pub value_at : ℕ → Draft → List ℕ → Result (Draft × List ℕ) Fault
value_at zero d bytes = value_with (λ e inner. fail Depth inner) d bytes
value_at (suc level) d bytes = value_with (value_at level) d bytes

-- The value whose text starts here and the bytes after it, or the first fault.
unfoldable pub reading_of : List ℕ → Result (List Kind × List ℕ) Fault
reading_of bytes = value_at levels nothing_drafted bytes >>= λ p. Ok (p.0.places, p.1)
