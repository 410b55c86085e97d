use Rattle.std.proofs.Common.{◌≡◌, ◌+◌, ◌<◌, ℕ, suc, [], ◌∷◌, List, length, map, slice_index, refl, ap, ap₂, subst, ◌∙◌, arith}
use Rattle.std.proofs.lemmas.List.{length-map}
use Rattle.php_graph.specs.declared.kind.Kind.{Kind}
use Rattle.php_graph.specs.declared.places.Place.{Place}
use Rattle.php_graph.specs.PlaceOffsets.{kinds_at, offsets_at}
use Rattle.value_image.specs.Reading.{IsReadOf, IsTableOf, renumbered_kind}
use Rattle.value_image.proofs.OffsetTables.{offsets-below, offsets-rising, table-many, read-one, read-below, read-back}
use Rattle.value_image.proofs.numbers.number.Goals as goal

-- as many offsets as places
offsets-long : (ps : List Place) → length (0 ∷ offsets_at ps) ≡ length ps + 1
offsets-long ps = omega (arith, length-map ps (λ (p : Place). p.at))

-- a place stands alone
alone : (first : Kind) (ps : List Place) → length ps ≡ 0 → length (first ∷ kinds_at ps) ≡ 1
alone first ps none = omega (arith, none, length-map ps (λ (p : Place). p.kind))

-- where no place stands behind it, no other changes
none-other : (f : Kind → Kind) (ps : List Place) → length ps ≡ 0 → kinds_at ps ≡ map f (kinds_at ps)
none-other f [] none = refl
none-other f (p ∷ ps) none = absurd (omega (arith, none))

pub renumber_place-requires : goal.renumber_place-requires
renumber_place-requires c =
    let none : length c.args.others.now.items ≡ 0 = grind (arith, c.is_empty.ensures, c.if-is_empty.true, c.args.others.now.ok.0) in
    let places = c.args.first.now ∷ kinds_at c.args.others.now.items in
    read-below (1 ∷ []) places (0 ∷ offsets_at c.args.others.now.items) c.args.len c.requires.0 c.requires.1 (read-one _ _ _ _ c.requires.1 (alone c.args.first.now c.args.others.now.items none)) 0 c.args.first.now refl

pub returns-then-is_empty-clause-places : goal.returns-then-is_empty-clause-places
returns-then-is_empty-clause-places c = λ g h.
    let none : length c.args.others.now.items ≡ 0 = grind (arith, c.is_empty.ensures, c.if-is_empty.true, c.args.others.now.ok.0) in
    let places = c.args.first.now ∷ kinds_at c.args.others.now.items in
    let back = read-back (1 ∷ []) places (0 ∷ offsets_at c.args.others.now.items) c.args.len g h (read-one _ _ _ _ h (alone c.args.first.now c.args.others.now.items none)) in
    ap₂ (λ (k : Kind) (ks : List Kind). k ∷ ks) c.renumber_place.ensures (none-other (renumbered_kind (slice_index (1 ∷ []))) c.args.others.now.items none) ∙ back

pub table_of-requires-clause-below : goal.table_of-requires-clause-below
table_of-requires-clause-below c =
    let ps = c.args.others.now.items in
    let all = offsets-below (0 ∷ offsets_at ps) c.requires.0 c.args.len c.requires.1.offsets_are c.requires.1.len_is in
    rw c.as_slice.ensures.value (λ i lt. all i (omega (arith, lt, offsets-long ps)))

pub table_of-requires-clause-rising : goal.table_of-requires-clause-rising
table_of-requires-clause-rising c =
    let ps = c.args.others.now.items in
    let all = offsets-rising (0 ∷ offsets_at ps) c.requires.0 c.requires.1.offsets_are in
    rw c.as_slice.ensures.value (λ i j lt le. all i j lt (omega (arith, le, offsets-long ps)))

-- the table of the graph
table : (t : List ℕ) (ps qs : List Place) (len : ℕ) (first : Kind) (g : List Kind) → IsReadOf (first ∷ kinds_at ps) (0 ∷ offsets_at ps) len g → qs ≡ ps
    → length t ≡ len → ((i : ℕ) → i < length qs + 1 → slice_index t (slice_index (0 ∷ offsets_at qs) i) ≡ i + 1) → IsTableOf t g
table t ps qs len first g h same long filled =
    let at = subst (λ (xs : List Place). (i : ℕ) → i < length xs + 1 → slice_index t (slice_index (0 ∷ offsets_at xs) i) ≡ i + 1) same filled in
    table-many t (0 ∷ offsets_at ps) len g h.offsets_are h.len_is long (λ i lt. at i (omega (arith, lt, offsets-long ps)))

pub renumber_place-requires-2 : goal.renumber_place-requires-2
renumber_place-requires-2 c =
    let t = c.in_ok-table.table.items in
    let ps = c.args.others.now.items in
    let is = table t ps c.as_slice.result.now c.args.len c.args.first.now c.requires.0 c.requires.1 c.as_slice.ensures.value c.in_ok-table.ensures.0 c.in_ok-table.ensures.1 in
    rw c.as_slice-2.ensures.value (read-below t (c.args.first.now ∷ kinds_at ps) (0 ∷ offsets_at ps) c.args.len c.requires.0 c.requires.1 is 0 c.args.first.now refl)

pub renumber_places-requires : goal.renumber_places-requires
renumber_places-requires c =
    let t = c.in_ok-table.table.items in
    let ps = c.args.others.now.items in
    let is = table t ps c.as_slice.result.now c.args.len c.args.first.now c.requires.0 c.requires.1 c.as_slice.ensures.value c.in_ok-table.ensures.0 c.in_ok-table.ensures.1 in
    rw c.as_slice-3.ensures.value (λ i kind at. read-below t (c.args.first.now ∷ kinds_at ps) (0 ∷ offsets_at ps) c.args.len c.requires.0 c.requires.1 is (suc i) kind at)

pub returns-clause-places : goal.returns-clause-places
returns-clause-places c = λ g h.
    let t = c.in_ok-table.table.items in
    let ps = c.args.others.now.items in
    let is = table t ps c.as_slice.result.now c.args.len c.args.first.now g h c.as_slice.ensures.value c.in_ok-table.ensures.0 c.in_ok-table.ensures.1 in
    let back = read-back t (c.args.first.now ∷ kinds_at ps) (0 ∷ offsets_at ps) c.args.len g h is in
    let first = c.renumber_place-2.ensures ∙ ap (λ (u : List ℕ). renumbered_kind (slice_index u) c.args.first.now) c.as_slice-2.ensures.value in
    let others = c.renumber_places.ensures.kinds ∙ ap (λ (u : List ℕ). map (renumbered_kind (slice_index u)) (kinds_at ps)) c.as_slice-3.ensures.value in
    ap₂ (λ (k : Kind) (ks : List Kind). k ∷ ks) first others ∙ back
