-- An image place by place, and as one run of words.
use Rattle.std.proofs.Common.{◌≡◌, ℕ, zero, suc, ◌+◌, ◌-◌, ◌<◌, ◌≤◌, List, [], ◌∷◌, ◌++◌, length, take, drop, Some, slice_get, sum_by, refl, sym, ap, ap₂, ◌∙◌, subst, arith, length-append}
use Rattle.std.specs.List.{flat_map}
use Rattle.std.proofs.Math.Seq.{take-add}
use Rattle.std.proofs.lemmas.Grind.{flat_map-append}
use Rattle.std.proofs.lemmas.List.{take-append-drop, drop-drop}
use Rattle.std.proofs.lemmas.List.Sums.{sum_by-cons}
use Rattle.php_graph.specs.declared.kind.Kind.{Kind}
use Rattle.php_graph.specs.Graph.{IsGraph, kind_at}
use Rattle.php_graph.specs.Size.{cells_of, image_length, offset_of}
use Rattle.value_image.specs.Rows.{written, StandsAt}
use Rattle.value_image.specs.Image.{place_words, image_of, IsImageOf}
use Rattle.value_image.proofs.Runs.{stands-front, stands-back, stands-written, stands-inside}
use Rattle.value_image.proofs.ItemRuns.{length-items, flat_map-more}
use Rattle.value_image.proofs.Lengths.{length-kind_words}

pub length-image_of : (g : List Kind) → length (image_of g) ≡ image_length g
unfolding image_of
length-image_of g = length-items (place_words g) cells_of (length-kind_words (offset_of g)) g

-- an item of a run of items
pub stands-item : {X : Type 0} (f : X → List ℕ) (cells : X → ℕ) → ((x : X) → length (f x) ≡ cells x)
    → (row : List ℕ) (at : ℕ) (xs : List X) (i : ℕ) (x : X) → StandsAt row at (flat_map f xs) → slice_get xs i ≡ Some x → StandsAt row (at + sum_by cells (take i xs)) (f x)
stands-item f cells len row at xs i x h get =
    let cut : flat_map f xs ≡ (flat_map f (take i xs) ++ f x) ++ flat_map f (drop (i + 1) xs) =
    ap (flat_map f) (sym (take-append-drop (i + 1) xs))
    ∙ (flat_map-append f (take (i + 1) xs) (drop (i + 1) xs) ∙ ap (λ (r : List ℕ). r ++ flat_map f (drop (i + 1) xs)) (flat_map-more f xs i x get)) in
    let all : StandsAt row at ((flat_map f (take i xs) ++ f x) ++ flat_map f (drop (i + 1) xs)) = subst (StandsAt row at) cut h in
    let long = length-items f cells len (take i xs) in
    stands-back row at (flat_map f (take i xs)) (f x) (at + sum_by cells (take i xs)) (stands-front row at (flat_map f (take i xs) ++ f x) (flat_map f (drop (i + 1) xs)) all) (omega arith)

stands-both : (row : List ℕ) (at : ℕ) (xs ys : List ℕ) → StandsAt row at xs → StandsAt row (at + length xs) ys → StandsAt row at (xs ++ ys)
stands-both row at xs ys hx hy =
    ap (λ (n : ℕ). take n (drop at row)) (length-append xs ys)
    ∙ (take-add (length xs) (length ys) (drop at row)
    ∙ ap₂ (λ (a b : List ℕ). a ++ b) hx (ap (take (length ys)) (drop-drop (length xs) at row) ∙ hy))

-- items that stand one behind the other are a run
pub stands-items : {X : Type 0} (f : X → List ℕ) (cells : X → ℕ) → ((x : X) → length (f x) ≡ cells x)
    → (row : List ℕ) (at : ℕ) (xs : List X) → ((i : ℕ) (x : X) → slice_get xs i ≡ Some x → StandsAt row (at + sum_by cells (take i xs)) (f x)) → StandsAt row at (flat_map f xs)
stands-items f cells len row at [] each = refl
stands-items f cells len row at (x ∷ xs) each =
    let here : at + 0 ≡ at = omega arith in
    stands-both row at (f x) (flat_map f xs) (subst (λ k. StandsAt row k (f x)) here (each 0 x refl))
    (stands-items f cells len row (at + length (f x)) xs (λ i y get.
    let e : at + sum_by cells (x ∷ take i xs) ≡ at + length (f x) + sum_by cells (take i xs) = omega (arith, sum_by-cons cells x (take i xs), len x) in
    subst (λ k. StandsAt row k (f y)) e (each (suc i) y get)))

-- the same words as one run
pub image-stands : (row : List ℕ) (at len : ℕ) (g : List Kind) → IsImageOf row at len g → StandsAt row at (image_of g)
unfolding image_of
image-stands row at len g h =
    stands-items (place_words g) cells_of (length-kind_words (offset_of g)) row at g (λ i kind get.
    ap (λ (n : ℕ). take n (drop (at + image_length (take i g)) row)) (length-kind_words (offset_of g) kind)
    ∙ (let e : suc i - 1 ≡ i = omega arith in
    ap (λ (n : ℕ). take (cells_of kind) (drop (at + image_length (take n g)) row)) (sym e) ∙ h.places (suc i) kind get))

-- and back
pub stands-image : (row : List ℕ) (at len : ℕ) (g : List Kind) → IsGraph g → len ≡ image_length g → StandsAt row at (image_of g) → IsImageOf row at len g
unfolding image_of
stands-image row at len g graph e h = record { graph = graph; length_is = e; places = place } where
  place : (k : ℕ) (kind : Kind) → kind_at g k ≡ Some kind → take (cells_of kind) (drop (at + offset_of g k) row) ≡ place_words g kind
  place zero kind get = cc
  place (suc i) kind get =
      let one : suc i - 1 ≡ i = omega arith in
      ap (λ (n : ℕ). take (cells_of kind) (drop (at + image_length (take n g)) row)) one
      ∙ (ap (λ (n : ℕ). take n (drop (at + image_length (take i g)) row)) (sym (length-kind_words (offset_of g) kind))
      ∙ stands-item (place_words g) cells_of (length-kind_words (offset_of g)) row at g i kind h get)

-- an image that was written
pub image-written : (row : List ℕ) (at : ℕ) (g : List Kind) → IsGraph g → at + image_length g ≤ length row → IsImageOf (written row at (image_of g)) at (image_length g) g
image-written row at g graph room =
    let len = length-image_of g in
    stands-image (written row at (image_of g)) at (image_length g) g graph refl (stands-written row at (image_of g) (omega arith))

-- an image lies inside its row
pub image-inside : (row : List ℕ) (at len : ℕ) (g : List Kind) → IsImageOf row at len g → 0 < len → at + len ≤ length row
image-inside row at len g h some =
    let long = length-image_of g in
    let inside = stands-inside row at (image_of g) (image-stands row at len g h) (omega (arith, long, h.length_is)) in
    omega (arith, long, h.length_is)
