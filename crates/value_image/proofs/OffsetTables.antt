-- From offsets back to numbers.
use Rattle.std.proofs.Common.{◌≡◌, ℕ, zero, suc, ◌+◌, ◌-◌, ◌<◌, ◌≤◌, List, [], ◌∷◌, length, map, take, slice_index, slice_get, get_or, Some, None, refl, sym, ap, ap₂, ◌∙◌, subst, arith, add-zero, zero-add}
use Rattle.std.proofs.lemmas.List.{take-take, length-map}
use Rattle.std.proofs.lemmas.List.Sums.{sum_by-cons, sum_by_more, sum_by-take-le}
use Rattle.php_graph.specs.declared.child.Child.{Child}
use Rattle.php_graph.specs.declared.child.Child.TheVariants.{Own, Back}
use Rattle.php_graph.specs.declared.kind.Kind.{Kind}
use Rattle.php_graph.specs.declared.kind.Kind.TheVariants as kinds
use Rattle.php_graph.specs.Graph.{IsGraph, child_end, end_of}
use Rattle.php_graph.specs.Size.{cells_of, image_length, offset_of}
use Rattle.php_graph.specs.PlaceOffsets.{offsets_from}
use Rattle.value_image.specs.Image.{IsImageOf}
use Rattle.value_image.specs.Places.{number_of, IsPlaceOf, AllNamePlaces, NamesPlaces}
use Rattle.value_image.specs.Reading.{renumbered_child, renumbered_member, renumbered_kind, IsBelow, IsTableOf, IsReadOf}
use Rattle.value_image.proofs.NamedPlaces.{names_places}

-- ---- offsets

pub cells_of-one : (kind : Kind) → 1 ≤ cells_of kind
cells_of-one kinds.Null = omega arith
cells_of-one (kinds.Bool b) = omega arith
cells_of-one (kinds.Int n) = omega arith
cells_of-one (kinds.Str bytes) = omega arith
cells_of-one (kinds.Array ms) = omega arith
cells_of-one (kinds.Object class ps) = omega arith
cells_of-one (kinds.Same x) = omega arith

pub length-offsets : (n : ℕ) (g : List Kind) → length (offsets_from n g) ≡ length g
length-offsets n [] = refl
length-offsets n (kind ∷ ks) = ap suc (length-offsets (n + cells_of kind) ks)

pub get_or-offsets : (n : ℕ) (g : List Kind) (i : ℕ) → i < length g → get_or (offsets_from n g) i 0 ≡ n + image_length (take i g)
get_or-offsets n [] i h = absurd (omega arith)
get_or-offsets n (kind ∷ ks) zero h = sym (add-zero n)
get_or-offsets n (kind ∷ ks) (suc i) h =
    omega (arith, sum_by-cons cells_of kind (take i ks), get_or-offsets (n + cells_of kind) ks i (omega arith))

-- places further on stand further on
pub image-rising : (g : List Kind) (i j : ℕ) → i < j → j ≤ length g → image_length (take i g) < image_length (take j g)
image-rising g i j lt le =
    let more = sum_by_more cells_of g i kinds.Null (omega arith) in
    let one = cells_of-one (get_or g i kinds.Null) in
    let part = sum_by-take-le cells_of (take j g) (i + 1) in
    let same : image_length (take (i + 1) (take j g)) ≡ image_length (take (i + 1) g) = ap image_length (take-take (i + 1) j g (omega arith)) in
    omega arith

pub offset_of-below : (g : List Kind) (k : ℕ) → IsPlaceOf (length g) k → offset_of g k < image_length g
offset_of-below g k place =
    let last = sum_by-take-le cells_of g (length g) in
    let before = image-rising g (k - 1) (length g) (omega (arith, place.0, place.1)) (omega arith) in
    omega arith

-- a graph has a place
pub some-place : (g : List Kind) → IsGraph g → 1 ≤ length g
unfolding end_of child_end
some-place [] graph = absurd (let e : None ≡ Some (0 + 1) = graph.sealed in cc)
some-place (kind ∷ ks) graph = omega arith

-- an image has a word
pub image-some : (row : List ℕ) (at len : ℕ) (g : List Kind) → IsImageOf row at len g → 0 < len
image-some row at len g image = omega (arith, image.length_is, offset_of-below g 1 (omega arith, some-place g image.graph))

pub offsets-rising : (offsets : List ℕ) (g : List Kind) → offsets ≡ offsets_from 0 g → (i j : ℕ) → i < j → j < length offsets → slice_index offsets i < slice_index offsets j
offsets-rising offsets g e i j lt le =
    let len : length offsets ≡ length g = ap (length {A = ℕ}) e ∙ length-offsets 0 g in
    let at_i : slice_index offsets i ≡ 0 + image_length (take i g) = ap (λ (xs : List ℕ). get_or xs i 0) e ∙ get_or-offsets 0 g i (omega arith) in
    let at_j : slice_index offsets j ≡ 0 + image_length (take j g) = ap (λ (xs : List ℕ). get_or xs j 0) e ∙ get_or-offsets 0 g j (omega arith) in
    omega (arith, image-rising g i j lt (omega arith))

pub offsets-below : (offsets : List ℕ) (g : List Kind) (len : ℕ) → offsets ≡ offsets_from 0 g → len ≡ image_length g → (i : ℕ) → i < length offsets → slice_index offsets i < len
offsets-below offsets g len e is i lt =
    let same : length offsets ≡ length g = ap (length {A = ℕ}) e ∙ length-offsets 0 g in
    let at_i : slice_index offsets i ≡ 0 + image_length (take i g) = ap (λ (xs : List ℕ). get_or xs i 0) e ∙ get_or-offsets 0 g i (omega arith) in
    let back : suc i - 1 ≡ i = omega arith in
    let below : image_length (take (suc i - 1) g) < image_length g = offset_of-below g (suc i) (omega arith, omega arith) in
    let below' : image_length (take i g) < image_length g = subst (λ k. image_length (take k g) < image_length g) back below in
    omega arith

-- a graph has no more places than its image has words
pub places-few : (g : List Kind) → length g ≤ image_length g
places-few [] = omega arith
places-few (kind ∷ ks) = omega (arith, sum_by-cons cells_of kind ks, cells_of-one kind, places-few ks)

-- ---- tables

pub table-one : (g : List Kind) → length g ≡ 1 → IsTableOf (1 ∷ []) g
table-one g one k low high =
    let same : 1 ≡ k = omega arith in
    subst (λ k. (offset_of g k < 1) × (slice_index (1 ∷ []) (offset_of g k) ≡ k)) same (omega arith, refl)

pub table-many : (table offsets : List ℕ) (len : ℕ) (g : List Kind) → offsets ≡ offsets_from 0 g → len ≡ image_length g
    → length table ≡ len → ((i : ℕ) → i < length offsets → slice_index table (slice_index offsets i) ≡ i + 1) → IsTableOf table g
table-many table offsets len g e is long filled zero low high = absurd (omega arith)
table-many table offsets len g e is long filled (suc i) low high =
    let same : length offsets ≡ length g = ap (length {A = ℕ}) e ∙ length-offsets 0 g in
    let back : suc i - 1 ≡ i = omega arith in
    let at_i : slice_index offsets i ≡ offset_of g (suc i) =
    ap (λ (xs : List ℕ). get_or xs i 0) e ∙ (get_or-offsets 0 g i (omega arith) ∙ (zero-add _ ∙ ap (λ (k : ℕ). image_length (take k g)) (sym back))) in (
      omega (arith, offset_of-below g (suc i) (low, high)),
      ap (slice_index table) (sym at_i) ∙ (filled i (omega arith) ∙ omega arith),
    )

-- ---- numbers that come back

-- the table returns each of n numbers for its offset, and is long enough
pub record IsBack (n size : ℕ) (t o : ℕ → ℕ) : Type 0 where
  pub below : (x : ℕ) → IsPlaceOf n x → o x < size
  pub back : (x : ℕ) → IsPlaceOf n x → t (o x) ≡ x

child-back : (n size : ℕ) (t o : ℕ → ℕ) → IsBack n size t o → (c : Child) → IsPlaceOf n (number_of c) → (number_of (renumbered_child o c) < size) × (renumbered_child t (renumbered_child o c) ≡ c)
child-back n size t o h (Own x) place = (h.below x place, ap Own (h.back x place))
child-back n size t o h (Back x) place = (h.below x place, ap Back (h.back x place))

members-below : {A : Type 0} (n size : ℕ) (t o : ℕ → ℕ) → IsBack n size t o → (ms : List (A × Child)) → AllNamePlaces n ms
    → (i : ℕ) (m : A × Child) → slice_get (map (renumbered_member o) ms) i ≡ Some m → number_of m.1 < size
members-below n size t o h [] places i m at = cc
members-below n size t o h (x ∷ xs) places zero m at =
    let e : renumbered_member o x ≡ m = cc in
    subst (λ y. number_of y.1 < size) e (child-back n size t o h x.1 (places 0 x refl)).0
members-below n size t o h (x ∷ xs) places (suc i) m at = members-below n size t o h xs (λ j y get. places (suc j) y get) i m at

members-back : {A : Type 0} (n size : ℕ) (t o : ℕ → ℕ) → IsBack n size t o → (ms : List (A × Child)) → AllNamePlaces n ms
    → map (renumbered_member t) (map (renumbered_member o) ms) ≡ ms
members-back n size t o h [] places = refl
members-back n size t o h (x ∷ xs) places =
    ap₂ (λ c ys. (x.0, c) ∷ ys) (child-back n size t o h x.1 (places 0 x refl)).1 (members-back n size t o h xs (λ j y get. places (suc j) y get))

kind-below : (n size : ℕ) (t o : ℕ → ℕ) → IsBack n size t o → (kind : Kind) → NamesPlaces n kind → IsBelow size (renumbered_kind o kind)
kind-below n size t o h kinds.Null places = tt
kind-below n size t o h (kinds.Bool b) places = tt
kind-below n size t o h (kinds.Int x) places = tt
kind-below n size t o h (kinds.Str bytes) places = tt
kind-below n size t o h (kinds.Array ms) places = members-below n size t o h ms places
kind-below n size t o h (kinds.Object class ps) places = members-below n size t o h ps places
kind-below n size t o h (kinds.Same x) places = h.below x places

kind-back : (n size : ℕ) (t o : ℕ → ℕ) → IsBack n size t o → (kind : Kind) → NamesPlaces n kind → renumbered_kind t (renumbered_kind o kind) ≡ kind
kind-back n size t o h kinds.Null places = refl
kind-back n size t o h (kinds.Bool b) places = refl
kind-back n size t o h (kinds.Int x) places = refl
kind-back n size t o h (kinds.Str bytes) places = refl
kind-back n size t o h (kinds.Array ms) places = ap (λ ys. kinds.Array ys) (members-back n size t o h ms places)
kind-back n size t o h (kinds.Object class ps) places = ap (λ ys. kinds.Object class ys) (members-back n size t o h ps places)
kind-back n size t o h (kinds.Same x) places = ap kinds.Same (h.back x places)

kinds-below : (n size : ℕ) (t o : ℕ → ℕ) → IsBack n size t o → (ks : List Kind) → ((i : ℕ) (kind : Kind) → slice_get ks i ≡ Some kind → NamesPlaces n kind)
    → (i : ℕ) (kind : Kind) → slice_get (map (renumbered_kind o) ks) i ≡ Some kind → IsBelow size kind
kinds-below n size t o h [] places i kind at = cc
kinds-below n size t o h (x ∷ xs) places zero kind at =
    let e : renumbered_kind o x ≡ kind = cc in
    subst (IsBelow size) e (kind-below n size t o h x (places 0 x refl))
kinds-below n size t o h (x ∷ xs) places (suc i) kind at = kinds-below n size t o h xs (λ j y get. places (suc j) y get) i kind at

pub kinds-back : (n size : ℕ) (t o : ℕ → ℕ) → IsBack n size t o → (ks : List Kind) → ((i : ℕ) (kind : Kind) → slice_get ks i ≡ Some kind → NamesPlaces n kind)
    → map (renumbered_kind t) (map (renumbered_kind o) ks) ≡ ks
kinds-back n size t o h [] places = refl
kinds-back n size t o h (x ∷ xs) places =
    ap₂ (λ y ys. y ∷ ys) (kind-back n size t o h x (places 0 x refl)) (kinds-back n size t o h xs (λ j y get. places (suc j) y get))

table-back : (table : List ℕ) (g : List Kind) → IsTableOf table g → IsBack (length g) (length table) (slice_index table) (offset_of g)
table-back table g h = record {
  below = λ x place. (h x place.0 place.1).0;
  back = λ x place. (h x place.0 place.1).1;
}

-- all offsets that were read lie in the table
pub read-below : (table : List ℕ) (places : List Kind) (offsets : List ℕ) (len : ℕ) (g : List Kind) → IsReadOf places offsets len g → IsTableOf table g
    → (i : ℕ) (kind : Kind) → slice_get places i ≡ Some kind → IsBelow (length table) kind
read-below table places offsets len g h t i kind at =
    kinds-below (length g) (length table) (slice_index table) (offset_of g) (table-back table g t) g (λ j k get. names_places g h.graph (suc j) k get) i kind
    (subst (λ (ks : List Kind). slice_get ks i ≡ Some kind) h.places_are at)

-- and the table gives the graph back
pub read-back : (table : List ℕ) (places : List Kind) (offsets : List ℕ) (len : ℕ) (g : List Kind) → IsReadOf places offsets len g → IsTableOf table g
    → map (renumbered_kind (slice_index table)) places ≡ g
read-back table places offsets len g h t =
    ap (map (renumbered_kind (slice_index table))) h.places_are
    ∙ kinds-back (length g) (length table) (slice_index table) (offset_of g) (table-back table g t) g (λ j k get. names_places g h.graph (suc j) k get)

-- a table of one word serves one place
pub read-one : (places : List Kind) (offsets : List ℕ) (len : ℕ) (g : List Kind) → IsReadOf places offsets len g → length places ≡ 1 → IsTableOf (1 ∷ []) g
read-one places offsets len g h one =
    table-one g (sym (length-map g (renumbered_kind (offset_of g))) ∙ (sym (ap (length {A = Kind}) h.places_are) ∙ one))
