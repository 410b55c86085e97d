-- What a builder keeps while a graph is written.
use Rattle.std.specs.Prelude.{◌≡◌, ◌⊎◌, ℕ, suc, ◌+◌, ◌-◌, ◌≤◌, ◌<◌, ◌^◌, Bool, true, false, IsTrue}
use Rattle.std.specs.Prelude.{List, [], ◌∷◌, ◌++◌, length, map, reverse, Option, Some, None}
use Rattle.std.specs.List.{AllByRecursion}
use Rattle.std.specs.Option.{option_to_list}
use Rattle.php_graph.specs.Keys.{KnowsKeys}
use Rattle.php_graph.specs.PlaceOffsets.{PlaceList, kinds_of}
use Rattle.php_graph.specs.MemberCounts.{children_in}
use Rattle.php_graph.specs.declared.key.Key.{Key}
use Rattle.php_graph.specs.declared.child.Child.{Child}
use Rattle.php_graph.specs.declared.child.Child.TheVariants.{Own}
use Rattle.php_graph.specs.declared.kind.Kind.{Kind}
use Rattle.php_graph.specs.declared.kind.Kind.TheVariants as kinds
use Rattle.php_graph.specs.declared.container.Container.{Container}
use Rattle.php_graph.specs.Graph.{kind_at, children_of, keys_of, passes, is_object, is_object_at}
use Rattle.php_graph.specs.Graph.{child_end, ends_after, end_of, levels, most_values, values_in}
use Rattle.php_graph.specs.Graph.{is_well_formed, FitsKind, FitsKey}
use Rattle.php_graph.specs.Building.{Draft, is_container, is_name, key_fault}

-- the places of open containers, the innermost first
abbrev pub places_of : List Container → List ℕ
places_of cs = map (λ c. c.place) (reverse cs)

-- the places so far
abbrev pub kinds_in : Option PlaceList → List Kind
kinds_in None = []
kinds_in (Some layout) = kinds_of layout

abbrev pub draft_of : List Kind → List Container → Option Key → Draft
draft_of places cs key = record { places = places; containers = places_of cs; key = key }

-- ---- drafts

abbrev pub children_at : Option Kind → List Child
children_at None = []
children_at (Some kind) = children_of kind

-- The container at place p lies in the containers around it, the innermost first. In each the next
-- one is the last member so far, and all members before it are complete.
abbrev pub IsSpine : List Kind → List ℕ → ℕ → Type 0
IsSpine g [] p = p ≡ 1
IsSpine g (q ∷ outer) p =
    (before : List Child)
    × (children_at (kind_at g q) ≡ before ++ Own p ∷ [])
    × (ends_after (child_end (levels - suc (length outer)) g) before (q + 1) ≡ Some p)
    × IsSpine g outer q

-- The members of the innermost open container are complete, and m is the next number. If none is
-- open, the value at place 1 is complete, or nothing is written.
abbrev pub IsShaped : List Kind → List ℕ → ℕ → Type 0
IsShaped g [] m = (m ≡ 1) ⊎ (end_of g 1 ≡ Some m)
IsShaped g (p ∷ outer) m =
    (ends_after (child_end (levels - suc (length outer)) g) (children_at (kind_at g p)) (p + 1)
    ≡ Some m)
    × IsSpine g outer p

-- A key that waits is one that its container may take.
abbrev pub IsWaiting : List Kind → List ℕ → Option Key → Type 0
IsWaiting g containers None = Unit {0}
IsWaiting g [] (Some key) = ⊥
IsWaiting g (p ∷ outer) (Some key) =
    FitsKey key
    × (key_fault g p key ≡ None)
    × (is_object_at g p ≡ true → is_name key ≡ true)

abbrev pub is_open_at : List Kind → ℕ → Bool
is_open_at g p = passes is_container (kind_at g p)

-- a draft that items have led to
pub record IsDraft (places : List Kind) (containers : List ℕ) (key : Option Key) : Type 0 where
  pub shaped : IsShaped places containers (length places + 1)
  pub opened : AllByRecursion (λ p. is_open_at places p ≡ true) containers
  pub deep : length containers ≤ levels
  pub waiting : IsWaiting places containers key
  pub targets :
      (p x : ℕ) → kind_at places p ≡ Some (kinds.Same x)
      → (suc x ≤ p) × IsTrue (is_object_at places x)
  pub well_formed : AllByRecursion (λ kind. IsTrue (is_well_formed kind)) places
  pub fits : AllByRecursion FitsKind places
  pub count : values_in places ≤ most_values
  pub members : children_in places ≤ values_in places

-- the keys of an array, the names of an object
abbrev pub keys_among : Option Kind → List Key
keys_among None = []
keys_among (Some kind) = keys_of kind

-- What is known of the keys of open containers, the innermost first. The key that waits counts as
-- one of the innermost one's.
abbrev pub KnowsAll : List Kind → List Container → Option Key → Type 0
KnowsAll g [] key = Unit {0}
KnowsAll g (c ∷ outer) key =
    KnowsKeys c.highest c.seen (keys_among (kind_at g c.place) ++ option_to_list key)
    × KnowsAll g outer None

-- what a builder keeps
pub record IsBuilding
    (places : List Kind) (containers : List Container) (key : Option Key) (values : ℕ)
    : Type 0 where
  pub draft : IsDraft places (places_of containers) key
  pub known : KnowsAll places (reverse containers) key
  pub values_are : values ≡ values_in places

-- a value that may take the next place, apart from the ranges that its type gives
pub record IsNewKind (g : List Kind) (kind : Kind) : Type 0 where
  pub childless : children_of kind ≡ []
  pub well_formed : IsTrue (is_well_formed kind)
  pub target : (x : ℕ) → kind ≡ kinds.Same x → IsTrue (is_object_at g x)

-- a value that may take the next place
pub record IsNewValue (g : List Kind) (kind : Kind) : Type 0 where
  pub childless : children_of kind ≡ []
  pub well_formed : IsTrue (is_well_formed kind)
  pub fits : FitsKind kind
  pub target : (x : ℕ) → kind ≡ kinds.Same x → IsTrue (is_object_at g x)

-- A container that opens at this place comes last. If none opens, nothing changes.
abbrev pub Opens : Bool → ℕ → List Container → List Container → Type 0
Opens true place old new =
    (c : Container)
    × (new ≡ old ++ c ∷ [])
    × (c.place ≡ place)
    × KnowsKeys c.highest c.seen []
Opens false place old new = new ≡ old

-- The innermost open container may take a member under the key that waits.
pub record CanTake (g : List Kind) (p : ℕ) (key : Key) : Type 0 where
  pub kind : Kind
  pub there : kind_at g p ≡ Some kind
  pub room : length (children_of kind) + 1 < 2 ^ 32
  pub named : is_object kind ≡ true → is_name key ≡ true

abbrev pub CanAttach : List Kind → List ℕ → Option Key → Type 0
CanAttach g [] key = key ≡ None
CanAttach g (p ∷ outer) None = Unit {0}
CanAttach g (p ∷ outer) (Some key) = CanTake g p key
