-- Writing a graph item by item.
use Rattle.std.specs.Prelude.{◌≡◌, ◌⊎◌, Result, Ok, Err, ℕ, zero, suc, ◌+◌, ◌-◌, Bool, true, false}
use Rattle.std.specs.Prelude.{◌&&◌, ◌||◌, not, nat_le, if◌then◌else◌, List, [], ◌∷◌, ◌++◌, length}
use Rattle.std.specs.Prelude.{map, drop, slice_set, Option, Some, None, FitsSigned}
use Rattle.std.specs.Option.{is_none}
use Rattle.std.specs.Int.{w64}
use Rattle.php_graph.specs.ByteStrings.{AreBytes}
use Rattle.php_graph.specs.declared.key.Key.{Key}
use Rattle.php_graph.specs.declared.key.Key.TheVariants as keys
use Rattle.php_graph.specs.declared.child.Child.{Child}
use Rattle.php_graph.specs.declared.child.Child.TheVariants.{Own, Back}
use Rattle.php_graph.specs.declared.kind.Kind.{Kind}
use Rattle.php_graph.specs.declared.kind.Kind.TheVariants as kinds
use Rattle.php_graph.specs.declared.item.Item.{Item}
use Rattle.php_graph.specs.declared.item.Item.TheVariants as items
use Rattle.php_graph.specs.declared.item.Wants.{Wants}
use Rattle.php_graph.specs.declared.item.Wants.TheVariants.{Value, ArrayKey, Name, Done}
use Rattle.php_graph.specs.declared.item.BuildFault.{BuildFault}
use Rattle.php_graph.specs.declared.item.BuildFault.TheVariants.{Memory, TooDeep, TooManyPlaces}
use Rattle.php_graph.specs.declared.item.BuildFault.TheVariants.{BadNumber, RepeatedKey, BadClass}
use Rattle.php_graph.specs.declared.item.BuildFault.TheVariants.{IntegerText}
use Rattle.php_graph.specs.Graph.{kind_at, is_array, is_object, is_array_at, is_object_at, keys_of}
use Rattle.php_graph.specs.Graph.{holds_key, is_array_key, is_class, FitsKey, values_in, levels}
use Rattle.php_graph.specs.Graph.{most_values}

-- A graph that is being written: its places so far, in which a container that is open has the
-- members that have begun; the places of the open containers, the innermost first; and a key that
-- waits for its value.
pub record Draft : Type 0 where
  pub places : List Kind
  pub containers : List ℕ
  pub key : Option Key

-- nothing is written yet
abbrev pub nothing_drafted : Draft
nothing_drafted = record { places = []; containers = []; key = None }

-- a whole graph, with nothing open
abbrev pub all_drafted : List Kind → Draft
all_drafted g = record { places = g; containers = []; key = None }

-- ---- what comes next

abbrev pub wants_at_top : List Kind → Wants
wants_at_top [] = Value
wants_at_top (kind ∷ ks) = Done

abbrev pub wants_inside : List Kind → ℕ → Option Key → Wants
wants_inside g p (Some key) = Value
wants_inside g p None = if is_array_at g p then ArrayKey else Name

abbrev pub wants_by : List Kind → List ℕ → Option Key → Wants
wants_by g [] key = wants_at_top g
wants_by g (p ∷ outer) key = wants_inside g p key

abbrev pub wants_of : Draft → Wants
wants_of d = wants_by d.places d.containers d.key

-- ---- which items fit

-- whether the item is a value or begins one
abbrev pub is_value : Item → Bool
is_value (items.Key k) = false
is_value items.Close = false
is_value _ = true

abbrev pub is_name : Key → Bool
is_name (keys.Int n) = false
is_name (keys.Str bytes) = true

-- whether the item is allowed when this is wanted
abbrev pub item_fits : Wants → Item → Bool
item_fits Value item = is_value item
item_fits ArrayKey (items.Key k) = true
item_fits ArrayKey items.Close = true
item_fits Name (items.Key k) = is_name k
item_fits Name items.Close = true
item_fits _ _ = false

-- numbers are of 64 bits, and byte strings have fewer than 2^32 bytes
abbrev pub FitsItem : Item → Type 0
FitsItem (items.Int n) = FitsSigned w64 n
FitsItem (items.Str bytes) = AreBytes bytes
FitsItem (items.OpenObject class) = AreBytes class
FitsItem (items.Key key) = FitsKey key
FitsItem _ = Unit {0}

-- ---- what is refused

-- A key of this container: an array takes no integer's decimal, and neither takes a key again.
abbrev pub fault_in : Kind → Key → Option BuildFault
fault_in kind key =
    if is_array kind && not (is_array_key key) then Some IntegerText
    else if holds_key (keys_of kind) key then Some RepeatedKey
    else None

abbrev pub fault_among : Option Kind → Key → Option BuildFault
fault_among None key = None
fault_among (Some kind) key = fault_in kind key

-- a key of the container at place p
abbrev pub key_fault : List Kind → ℕ → Key → Option BuildFault
key_fault g p key = fault_among (kind_at g p) key

-- a key of the innermost container
abbrev pub innermost_fault : List Kind → List ℕ → Key → Option BuildFault
innermost_fault g [] key = None
innermost_fault g (p ∷ outer) key = key_fault g p key

-- what is wrong with a value itself: it names no place that has begun, or no object, or it has no
-- class
abbrev pub content_fault : List Kind → Item → Option BuildFault
content_fault g (items.Same x) = if is_object_at g x then None else Some BadNumber
content_fault g (items.Back x) = if nat_le 1 x && nat_le x (length g) then None else Some BadNumber
content_fault g (items.OpenObject class) = if is_class class then None else Some BadClass
content_fault g _ = None

-- why there is no room for one more value: it would be nested too deep, or there are too many
abbrev pub room_fault : Draft → Option BuildFault
room_fault d =
    if nat_le levels (length d.containers) then Some TooDeep
    else if nat_le most_values (values_in d.places) then Some TooManyPlaces
    else None

abbrev pub first_fault : Option BuildFault → Option BuildFault → Option BuildFault
first_fault None later = later
first_fault (Some fault) later = Some fault

abbrev pub value_fault : Draft → Item → Option BuildFault
value_fault d item = first_fault (room_fault d) (content_fault d.places item)

-- why an item that fits is refused, memory aside; None if it is not
abbrev pub fault_of : Draft → Item → Option BuildFault
fault_of d (items.Key key) = innermost_fault d.places d.containers key
fault_of d items.Close = None
fault_of d item = value_fault d item

-- The result of a step with this fault: that very fault, or if there is none, Ok, unless memory
-- runs out.
abbrev pub IsAnswer : Option BuildFault → Result (Unit {0}) BuildFault → Type 0
IsAnswer fault (Ok done) = fault ≡ None
IsAnswer fault (Err answered) = ((answered ≡ Memory) × (fault ≡ None)) ⊎ (fault ≡ Some answered)

-- ---- what an item does

-- the container with one more member
abbrev pub with_member : Kind → Key → Child → Kind
with_member (kinds.Array ms) key c = kinds.Array (ms ++ (key, c) ∷ [])
with_member (kinds.Object class ps) (keys.Str name) c = kinds.Object class (ps ++ (name, c) ∷ [])
with_member kind key c = kind

abbrev pub changed_at : List Kind → ℕ → (Kind → Kind) → Option Kind → List Kind
changed_at g p change None = g
changed_at g p change (Some kind) = slice_set g (p - 1) (change kind)

-- The places with this member in the innermost open container, under the key that waits. A value at
-- the top is no member.
abbrev pub attached : List Kind → List ℕ → Option Key → Child → List Kind
attached g (p ∷ outer) (Some key) c = changed_at g p (λ kind. with_member kind key c) (kind_at g p)
attached g _ _ c = g

-- the number that the next value takes
abbrev pub next_place : Draft → ℕ
next_place d = length d.places + 1

-- the places with one more, which the innermost open container has as a member
abbrev pub with_place : Draft → Kind → List Kind
with_place d kind = attached d.places d.containers d.key (Own (next_place d)) ++ kind ∷ []

abbrev pub is_container : Kind → Bool
is_container kind = is_array kind || is_object kind

-- a value with a place of its own; a container is open from then on
abbrev pub with_value : Draft → Kind → Draft
with_value d kind = record {
  places = with_place d kind;
  containers = (if is_container kind then next_place d ∷ d.containers else d.containers);
  key = None;
}

-- a member that shares the value at place x
abbrev pub with_back : Draft → ℕ → Draft
with_back d x = record {
  places = attached d.places d.containers d.key (Back x);
  containers = d.containers;
  key = None;
}

-- the draft after an item that fits and is not refused
abbrev pub pushed : Draft → Item → Draft
pushed d items.Null = with_value d kinds.Null
pushed d (items.Bool b) = with_value d (kinds.Bool b)
pushed d (items.Int n) = with_value d (kinds.Int n)
pushed d (items.Str bytes) = with_value d (kinds.Str bytes)
pushed d items.OpenArray = with_value d (kinds.Array [])
pushed d (items.OpenObject class) = with_value d (kinds.Object class [])
pushed d (items.Key key) = record { places = d.places; containers = d.containers; key = Some key }
pushed d items.Close = record { places = d.places; containers = drop 1 d.containers; key = None }
pushed d (items.Same x) = with_value d (kinds.Same x)
pushed d (items.Back x) = with_back d x

-- The draft after a list of items, one after the other. None if one does not fit or is refused.
abbrev pub drafted : Draft → List Item → Option Draft
drafted d [] = Some d
drafted d (item ∷ rest) =
    if item_fits (wants_of d) item && is_none (fault_of d item) then drafted (pushed d item) rest
    else None

-- ---- what one pushes for a graph

-- the members of an array: each key, then its value
abbrev pub member_items : (Child → List Item) → List (Key × Child) → List Item
member_items written [] = []
member_items written (m ∷ ms) = items.Key m.0 ∷ written m.1 ++ member_items written ms

-- a name as the key that it is pushed as
abbrev pub named : List ℕ × Child → Key × Child
named p = (keys.Str p.0, p.1)

-- what one pushes for the place, if this is pushed for its children
abbrev pub kind_items : (Child → List Item) → Option Kind → List Item
kind_items written None = []
kind_items written (Some kinds.Null) = items.Null ∷ []
kind_items written (Some (kinds.Bool b)) = items.Bool b ∷ []
kind_items written (Some (kinds.Int n)) = items.Int n ∷ []
kind_items written (Some (kinds.Str bytes)) = items.Str bytes ∷ []
kind_items written (Some (kinds.Array ms)) =
    items.OpenArray ∷ member_items written ms ++ items.Close ∷ []
kind_items written (Some (kinds.Object class ps)) =
    items.OpenObject class ∷ member_items written (map named ps) ++ items.Close ∷ []
kind_items written (Some (kinds.Same x)) = items.Same x ∷ []

-- what one pushes for a member's value, as far as the levels go
unfoldable pub child_items : ℕ → List Kind → Child → List Item
child_items zero g c = []
child_items (suc level) g (Own x) = kind_items (child_items level g) (kind_at g x)
child_items (suc level) g (Back x) = items.Back x ∷ []

-- what one pushes for a graph
unfoldable pub items_of : List Kind → List Item
items_of g = child_items levels g (Own 1)
