-- What a graph keeps besides its places.
use Rattle.std.specs.Prelude.{◌≡◌, ℕ, ◌+◌, ◌≤◌, Option, Some, ◌<◌, ◌^◌, List, [], ◌∷◌, map}
use Rattle.php_graph.specs.declared.kind.Kind.{Kind}
use Rattle.php_graph.specs.declared.places.Place.{Place}
use Rattle.php_graph.specs.Graph.{IsGraph, most_values}
use Rattle.php_graph.specs.MemberCounts.{children_in}
use Rattle.php_graph.specs.declared.child.Child.{Child}
use Rattle.php_graph.specs.declared.child.Child.TheVariants.{Own, Back}
use Rattle.php_graph.specs.Size.{cells_of, image_length}

-- the offset of each place, if the first one is at n
abbrev pub offsets_from : ℕ → List Kind → List ℕ
offsets_from n [] = []
offsets_from n (kind ∷ ks) = n ∷ offsets_from (n + cells_of kind) ks

-- what is at places, and the offset of each
abbrev pub kinds_at : List Place → List Kind
kinds_at places = map (λ p. p.kind) places

abbrev pub offsets_at : List Place → List ℕ
offsets_at places = map (λ p. p.at) places

-- Places of which the first is separate. It begins the image.
pub record PlaceList : Type 0 where
  pub first : Kind
  pub others : List Place

abbrev pub kinds_of : PlaceList → List Kind
kinds_of layout = layout.first ∷ kinds_at layout.others

abbrev pub offsets_of : PlaceList → List ℕ
offsets_of layout = 0 ∷ offsets_at layout.others

-- the places of a graph, with the offset of each and the length of the image
pub record IsKept (places : List Kind) (offsets : List ℕ) (words : ℕ) : Type 0 where
  pub graph : IsGraph places
  pub offsets_are : offsets ≡ offsets_from 0 places
  pub few : children_in places ≤ most_values
  pub words_are : words ≡ image_length places
  pub small : words < 2 ^ 60

-- the number of the last member that is written here, or the one before if there is none
abbrev pub last_own : Option ℕ → List Child → Option ℕ
last_own before [] = before
last_own before (Own x ∷ cs) = last_own (Some x) cs
last_own before (Back x ∷ cs) = last_own before cs
