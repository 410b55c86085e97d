-- The places that members name.
use Rattle.std.specs.Prelude.{◌≡◌, ℕ, ◌≤◌, List, slice_get, Some}
use Rattle.php_graph.specs.declared.child.Child.{Child}
use Rattle.php_graph.specs.declared.child.Child.TheVariants.{Own, Back}
use Rattle.php_graph.specs.declared.kind.Kind.{Kind}
use Rattle.php_graph.specs.declared.kind.Kind.TheVariants as kinds

-- the number in a member
abbrev pub number_of : Child → ℕ
number_of (Own x) = x
number_of (Back x) = x

-- x is a place of a graph with n places
abbrev pub IsPlaceOf : ℕ → ℕ → Type 0
IsPlaceOf n x = (1 ≤ x) × (x ≤ n)

-- each member names one of n places
abbrev pub AllNamePlaces : {A : Type 0} → ℕ → List (A × Child) → Type 0
AllNamePlaces {A = A} n ms =
    (i : ℕ) (m : A × Child) → slice_get ms i ≡ Some m → IsPlaceOf n (number_of m.1)

-- each number in what is at a place is one of n places
abbrev pub NamesPlaces : ℕ → Kind → Type 0
NamesPlaces n (kinds.Array ms) = AllNamePlaces n ms
NamesPlaces n (kinds.Object class ps) = AllNamePlaces n ps
NamesPlaces n (kinds.Same x) = IsPlaceOf n x
NamesPlaces n _ = Unit {0}
