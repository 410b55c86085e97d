-- An image read place by place.
use Rattle.std.proofs.Common.{◌≡◌, ℕ, suc, ◌+◌, ◌-◌, ◌*◌, ◌<◌, ◌≤◌, ◌^◌, List, [], ◌∷◌, ◌++◌, length, map, take, drop, slice_get, Some, refl, inl, inr, zero-add, add-zero, sym, ap, ap₂, subst, ◌∙◌, arith}
use Rattle.std.specs.List.{flat_map, AllByRecursion}
use Rattle.std.proofs.lemmas.Bool.{cases_lt}
use Rattle.std.proofs.lemmas.List.{length-map, length_push, map-append, take_all}
use Rattle.std.proofs.lemmas.List.Sums.{sum_by-cons, sum_by-take-le}
use Rattle.php_graph.specs.declared.key.Key.{Key}
use Rattle.php_graph.specs.declared.child.Child.{Child}
use Rattle.php_graph.specs.declared.child.Child.TheVariants.{Own, Back}
use Rattle.php_graph.specs.declared.kind.Kind.{Kind}
use Rattle.php_graph.specs.declared.kind.Kind.TheVariants as kinds
use Rattle.php_graph.specs.ByteStrings.{AreBytes}
use Rattle.php_graph.specs.Graph.{IsGraph, FitsKind, FitsKey}
use Rattle.php_graph.specs.Size.{cells_of, image_length, offset_of}
use Rattle.php_graph.specs.declared.places.Place.{Place}
use Rattle.php_graph.specs.PlaceOffsets.{kinds_at, offsets_at, offsets_from}
use Rattle.seg_words.specs.Windows.{Aside}
use Rattle.seg_words.specs.Blocks.{IsTold}
use Rattle.value_image.specs.Rows.{StandsAt}
use Rattle.value_image.specs.Places.{number_of}
use Rattle.value_image.specs.Image.{string_words, key_words, child_word, member_words, property_words, kind_words, place_words, IsImageOf}
use Rattle.value_image.specs.Reading.{itself, renumbered_child, renumbered_member, renumbered_kind, FitsMember, FitsProperty, FitsRead, IsKindAt, IsReadOf}
use Rattle.value_image.proofs.ItemRuns.{take_more-get, cells-more, cells-within, get-some, all-get}
use Rattle.value_image.proofs.Lengths.{length-kind_words}
use Rattle.value_image.proofs.NamedPlaces.{get-within}
use Rattle.value_image.proofs.OffsetTables.{image-rising, image-some}

-- ---- offsets in place of numbers

child-words : (f : ℕ → ℕ) (c : Child) → child_word itself (renumbered_child f c) ≡ child_word f c
child-words f (Own x) = refl
child-words f (Back x) = refl

members-words : (f : ℕ → ℕ) (ms : List (Key × Child)) → flat_map (member_words itself) (map (renumbered_member f) ms) ≡ flat_map (member_words f) ms
members-words f [] = refl
members-words f (m ∷ ms) = ap₂ (λ (w : ℕ) (r : List ℕ). (w ∷ key_words m.0) ++ r) (child-words f m.1) (members-words f ms)

properties-words : (f : ℕ → ℕ) (ps : List (List ℕ × Child)) → flat_map (property_words itself) (map (renumbered_member f) ps) ≡ flat_map (property_words f) ps
properties-words f [] = refl
properties-words f (p ∷ ps) = ap₂ (λ (w : ℕ) (r : List ℕ). (w ∷ string_words p.0) ++ r) (child-words f p.1) (properties-words f ps)

pub kind-words : (f : ℕ → ℕ) (kind : Kind) → kind_words itself (renumbered_kind f kind) ≡ kind_words f kind
kind-words f kinds.Null = refl
kind-words f (kinds.Bool b) = refl
kind-words f (kinds.Int n) = refl
kind-words f (kinds.Str bytes) = refl
kind-words f (kinds.Array ms) = ap₂ (λ (n : ℕ) (r : List ℕ). (4 + 8 * n) ∷ r) (length-map ms (renumbered_member f)) (members-words f ms)
kind-words f (kinds.Object class ps) = ap₂ (λ (n : ℕ) (r : List ℕ). ((5 + 8 * n) ∷ string_words class) ++ r) (length-map ps (renumbered_member f)) (properties-words f ps)
kind-words f (kinds.Same x) = refl

pub kind-cells : (f : ℕ → ℕ) (kind : Kind) → cells_of (renumbered_kind f kind) ≡ cells_of kind
kind-cells f kind =
    sym (length-kind_words itself (renumbered_kind f kind)) ∙ (ap (length {A = ℕ}) (kind-words f kind) ∙ length-kind_words f kind)

-- ---- what was read fits

child-small : (f : ℕ → ℕ) → ((x : ℕ) → f x < 2 ^ 32) → (c : Child) → number_of (renumbered_child f c) < 2 ^ 32
child-small f small (Own x) = small x
child-small f small (Back x) = small x

members-fit : (f : ℕ → ℕ) → ((x : ℕ) → f x < 2 ^ 32) → (ms : List (Key × Child)) → AllByRecursion (λ m. FitsKey m.0) ms → AllByRecursion FitsMember (map (renumbered_member f) ms)
members-fit f small [] h = tt
members-fit f small (m ∷ ms) h = ((h.0, child-small f small m.1), members-fit f small ms h.1)

properties-fit : (f : ℕ → ℕ) → ((x : ℕ) → f x < 2 ^ 32) → (ps : List (List ℕ × Child)) → AllByRecursion (λ p. AreBytes p.0) ps → AllByRecursion FitsProperty (map (renumbered_member f) ps)
properties-fit f small [] h = tt
properties-fit f small (p ∷ ps) h = ((h.0, child-small f small p.1), properties-fit f small ps h.1)

pub kind-fits : (f : ℕ → ℕ) → ((x : ℕ) → f x < 2 ^ 32) → (kind : Kind) → FitsKind kind → FitsRead (renumbered_kind f kind)
kind-fits f small kinds.Null h = tt
kind-fits f small (kinds.Bool b) h = tt
kind-fits f small (kinds.Int n) h = h
kind-fits f small (kinds.Str bytes) h = h
kind-fits f small (kinds.Array ms) h = members-fit f small ms h
kind-fits f small (kinds.Object class ps) h = (h.0, properties-fit f small ps h.1)
kind-fits f small (kinds.Same x) h = small x

-- ---- from place to place

-- the first places of the graph were read, up to this offset
pub record IsWalkTo (places : List Kind) (offsets : List ℕ) (offset : ℕ) (g : List Kind) : Type 0 where
  pub within : length places ≤ length g
  pub places_are : places ≡ map (renumbered_kind (offset_of g)) (take (length places) g)
  pub offsets_are : offsets ≡ offsets_from 0 (take (length places) g)
  pub offset_is : offset ≡ image_length (take (length places) g)

pub walk-none : (g : List Kind) → IsWalkTo [] [] 0 g
walk-none g = record { within = omega arith; places_are = refl; offsets_are = refl; offset_is = refl }

-- the place that comes next, in a walk that has changed nothing
pub walk-next : (row : List ℕ) (old : Aside) (at len : ℕ) (g : List Kind) (places : List Kind) (offsets : List ℕ) (offset : ℕ) (row' : List ℕ) (new : Aside)
    → IsImageOf row at len g → len < 2 ^ 32 → ((i : ℕ) → at ≤ i → i < at + len → IsTold old.windows i)
    → IsWalkTo places offsets offset g → offset < len → row' ≡ row → new ≡ old
    → (kind : Kind) × (slice_get g (length places) ≡ Some kind) × IsKindAt row' new.windows (at + offset) (renumbered_kind (offset_of g) kind)
walk-next row old at len g places offsets offset row' new image short told walk lt er ea =
    let whole : length g ≤ length places → take (length places) g ≡ g = λ le. take_all (length places) g le in
    let more : length places < length g = elim (cases_lt (length places) (length g)) [
      | inl before ↦ before
      | inr all ↦ let e : image_length (take (length places) g) ≡ image_length g = ap image_length (take_all (length places) g all) in absurd (omega (arith, walk.offset_is, image.length_is))
    ] in
    let found = get-some g (length places) more in
    let fits = cells-within cells_of g (length places) found.0 found.1 in
    let f : ℕ → ℕ = offset_of g in
    let words = kind-words f found.0 in
    let long : length (kind_words itself (renumbered_kind f found.0)) ≡ cells_of found.0 = ap (length {A = ℕ}) words ∙ length-kind_words f found.0 in
    let back : suc (length places) - 1 ≡ length places = omega arith in
    let here : take (cells_of found.0) (drop (at + offset) row) ≡ place_words g found.0 =
    ap (λ (n : ℕ). take (cells_of found.0) (drop (at + n) row)) (walk.offset_is ∙ ap (λ (n : ℕ). image_length (take n g)) (sym back)) ∙ image.places (suc (length places)) found.0 found.1 in
    let stands : StandsAt row (at + offset) (kind_words itself (renumbered_kind f found.0)) =
    ap (λ (n : ℕ). take n (drop (at + offset) row)) long ∙ (here ∙ sym words) in
    let small : (x : ℕ) → offset_of g x < 2 ^ 32 = λ x. omega (arith, sum_by-take-le cells_of g (x - 1), image.length_is, short) in
    let kind_there : IsKindAt row old.windows (at + offset) (renumbered_kind f found.0) = record {
      told = record {
        stands = stands;
        told = λ i low high. told i (omega arith) (omega (arith, long, fits, walk.offset_is, image.length_is));
      };
      fits = kind-fits f small found.0 (all-get FitsKind g (length places) found.0 image.graph.fits found.1);
    } in
    (found.0, found.1, rw (er, ea) kind_there)

offsets-push : (n : ℕ) (xs : List Kind) (x : Kind) → offsets_from n (xs ++ x ∷ []) ≡ offsets_from n xs ++ (n + image_length xs) ∷ []
offsets-push n [] x = let e : n ≡ n + 0 = omega arith in ap (λ (k : ℕ). k ∷ []) e
offsets-push n (y ∷ ys) x =
    let e : n + cells_of y + image_length ys ≡ n + image_length (y ∷ ys) = omega (arith, sum_by-cons cells_of y ys) in
    ap (λ (r : List ℕ). n ∷ r) (offsets-push (n + cells_of y) ys x ∙ ap (λ (k : ℕ). offsets_from (n + cells_of y) ys ++ k ∷ []) e)

-- one place more was read
pub walk-more : (g : List Kind) (places : List Kind) (offsets : List ℕ) (offset : ℕ) (kind kind' : Kind) (places' : List Kind) (offsets' : List ℕ) (offset' : ℕ)
    → IsWalkTo places offsets offset g → slice_get g (length places) ≡ Some kind → kind' ≡ renumbered_kind (offset_of g) kind
    → places' ≡ places ++ kind' ∷ [] → offsets' ≡ offsets ++ offset ∷ [] → offset' ≡ offset + cells_of kind → IsWalkTo places' offsets' offset' g
walk-more g places offsets offset kind kind' places' offsets' offset' walk get ek ep eo en =
    let len : length places' ≡ length places + 1 = ap (length {A = Kind}) ep ∙ length_push places kind' in
    let front = take_more-get g (length places) kind get in
    let taken : take (length places') g ≡ take (length places) g ++ kind ∷ [] = ap (λ (n : ℕ). take n g) len ∙ front in
    let f : ℕ → ℕ = offset_of g in
    record {
      within = omega (arith, len, get-within g (length places) kind get);
      places_are = ep ∙ (ap₂ (λ (ks : List Kind) (k : Kind). ks ++ k ∷ []) walk.places_are ek
          ∙ (sym (map-append (renumbered_kind f) (take (length places) g) (kind ∷ [])) ∙ ap (map (renumbered_kind f)) (sym taken)));
      offsets_are = eo ∙ (ap₂ (λ (os : List ℕ) (o : ℕ). os ++ o ∷ []) walk.offsets_are walk.offset_is
          ∙ (sym (offsets-push 0 (take (length places) g) kind ∙ ap (λ (o : ℕ). offsets_from 0 (take (length places) g) ++ o ∷ []) (zero-add _)) ∙ ap (offsets_from 0) (sym taken)));
      offset_is = omega (arith, en, walk.offset_is, cells-more cells_of g (length places) kind get, ap image_length taken, ap image_length front);
    }

-- the first place
pub walk-first : (row : List ℕ) (old : Aside) (at len : ℕ) (g : List Kind) → IsImageOf row at len g → len < 2 ^ 32 → ((i : ℕ) → at ≤ i → i < at + len → IsTold old.windows i)
    → (kind : Kind) × (slice_get g 0 ≡ Some kind) × IsKindAt row old.windows at (renumbered_kind (offset_of g) kind)
walk-first row old at len g image short told =
    let step = walk-next row old at len g [] [] 0 row old image short told (walk-none g) (image-some row at len g image) refl refl in
    (step.0, step.1, subst (λ (n : ℕ). IsKindAt row old.windows n (renumbered_kind (offset_of g) step.0)) (add-zero at) step.2)

pub walk-one : (g : List Kind) (kind first : Kind) (offset : ℕ) → slice_get g 0 ≡ Some kind → first ≡ renumbered_kind (offset_of g) kind → offset ≡ cells_of kind → IsWalkTo (first ∷ []) (0 ∷ []) offset g
walk-one g kind first offset get is en = walk-more g [] [] 0 kind first (first ∷ []) (0 ∷ []) offset (walk-none g) get is refl refl (omega (arith, en))

-- one place more stands among the others
pub walk-push : (g : List Kind) (first : Kind) (ps qs : List Place) (p : Place) (offset offset' : ℕ) (kind : Kind) → IsWalkTo (first ∷ kinds_at ps) (0 ∷ offsets_at ps) offset g → slice_get g (length (first ∷ kinds_at ps)) ≡ Some kind
    → p.kind ≡ renumbered_kind (offset_of g) kind → p.at ≡ offset → qs ≡ ps ++ p ∷ [] → offset' ≡ offset + cells_of kind → IsWalkTo (first ∷ kinds_at qs) (0 ∷ offsets_at qs) offset' g
walk-push g first ps qs p offset offset' kind walk get is at e en =
    let kinds = ap kinds_at e ∙ map-append (λ (q : Place). q.kind) ps (p ∷ []) in
    let offsets = ap offsets_at e ∙ (map-append (λ (q : Place). q.at) ps (p ∷ []) ∙ ap (λ (o : ℕ). offsets_at ps ++ o ∷ []) at) in
    walk-more g (first ∷ kinds_at ps) (0 ∷ offsets_at ps) offset kind p.kind (first ∷ kinds_at qs) (0 ∷ offsets_at qs) offset' walk get is (ap (λ (ks : List Kind). first ∷ ks) kinds) (ap (λ (os : List ℕ). 0 ∷ os) offsets) en

-- all places were read
pub walk-all : (g : List Kind) (places : List Kind) (offsets : List ℕ) (offset len : ℕ) → IsGraph g → len ≡ image_length g → IsWalkTo places offsets offset g → len ≤ offset → IsReadOf places offsets len g
walk-all g places offsets offset len graph is walk le =
    let all : length g ≤ length places = elim (cases_lt (length places) (length g)) [
      | inl before ↦ absurd (omega (arith, image-rising g (length places) (length g) before (omega arith), ap image_length (take_all (length g) g (omega arith)), walk.offset_is))
      | inr past ↦ past
    ] in
    let taken : take (length places) g ≡ g = take_all (length places) g all in
    record {
      graph = graph;
      places_are = walk.places_are ∙ ap (map (renumbered_kind (offset_of g))) taken;
      offsets_are = walk.offsets_are ∙ ap (offsets_from 0) taken;
      len_is = is;
    }
