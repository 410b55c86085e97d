-- How the graphs of the information calls are made: place by place.
use Rattle.std.specs.Prelude.{◌≡◌, ℕ, zero, suc, ◌+◌, ◌*◌, ◌^◌, ◌≤◌, pos, List, [], ◌∷◌, ◌++◌}
use Rattle.std.specs.Prelude.{length}
use Rattle.std.specs.Prelude.{codes, sum_by}
use Rattle.std.specs.Borrow.{Bor}
use Rattle.seg_words.specs.Layout.{words_in}
use Rattle.php_graph.specs.declared.key.Key.{Key}
use Rattle.php_graph.specs.declared.key.Key.TheVariants as keys
use Rattle.php_graph.specs.declared.child.Child.{Child}
use Rattle.php_graph.specs.declared.child.Child.TheVariants.{Own}
use Rattle.php_graph.specs.declared.kind.Kind.{Kind}
use Rattle.php_graph.specs.declared.places.Place.{Place}
use Rattle.php_graph.specs.Graph.{IsGraph, most_values}
use Rattle.php_graph.specs.MemberCounts.{children_in}
use Rattle.php_graph.specs.PlaceOffsets.{kinds_at, offsets_at, offsets_from}
use Rattle.php_graph.specs.Size.{image_length}
use Rattle.apcu_model.specs.Infos.{Told, number_kind}

-- what is known of places so far: the offset of each, the length of the image, and that there are
-- few
pub record IsLaidOut (first : Kind) (others : List Place) (words : ℕ) : Type 0 where
  pub offsets : 0 ∷ offsets_at others ≡ offsets_from 0 (first ∷ kinds_at others)
  pub words_are : words ≡ image_length (first ∷ kinds_at others)
  pub few : length others + 1 ≤ most_values
  pub small : words ≤ 2 ^ 34 * (length others + 1)

-- the places of numbers, the first of which has this offset
abbrev pub number_places : ℕ → List ℕ → List Place
number_places at [] = []
number_places at (n ∷ ns) =
    record { kind = number_kind n; at = at } ∷ number_places (at + 2) ns

-- members under these names, whose values have this many places each, from a place on
abbrev pub sized_members : ℕ → List (Bor (List ℕ) × ℕ) → List (Key × Child)
sized_members place [] = []
sized_members place (f ∷ fs) = (keys.Str f.0.now, Own place) ∷ sized_members (place + f.1) fs

-- the words of these names in an image, and of what belongs to each
abbrev pub name_cells : List (Bor (List ℕ) × ℕ) → ℕ
name_cells fs = sum_by (λ f. 2 + words_in (length f.0.now)) fs

-- members under these keys, whose values have a place each, from a place on
abbrev pub single_members : ℕ → List Key → List (Key × Child)
single_members place [] = []
single_members place (key ∷ keys) = (key, Own place) ∷ single_members (place + 1) keys

-- the keys of a row's array in a list
abbrev pub row_keys : List Key
row_keys =
    keys.Str (codes "info") ∷ keys.Str (codes "ttl") ∷ keys.Str (codes "num_hits")
    ∷ keys.Str (codes "mtime") ∷ keys.Str (codes "creation_time")
    ∷ keys.Str (codes "deletion_time") ∷ keys.Str (codes "access_time")
    ∷ keys.Str (codes "mem_size") ∷ []

-- this many members under the keys from n on, whose values have `step` places each, from a place on
abbrev pub stepped_members : ℕ → ℕ → ℕ → ℕ → List (Key × Child)
stepped_members place n step zero = []
stepped_members place n step (suc count) =
    (keys.Int (pos n), Own place) ∷ stepped_members (place + step) (n + 1) step count

-- the place after this many values
abbrev pub stepped_end : ℕ → ℕ → ℕ → ℕ
stepped_end place step zero = place
stepped_end place step (suc count) = stepped_end (place + step) step count

-- the places of values, one value after the other
abbrev pub values_run : ℕ → List Told → List Kind
values_run place [] = []
values_run place (v ∷ vs) = v place ++ values_run (place + length (v place)) vs

-- the places are a graph's, unless there are too many
pub record IsTellable (g : List Kind) : Type 0 where
  pub graph : length g ≤ most_values → IsGraph g
  pub children : length g ≤ most_values → children_in g ≤ most_values
