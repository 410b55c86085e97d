use Rattle.std.proofs.Common.{◌≡◌, ◌<◌, ℕ, List, length, slice_index, slice_get, slice_set, get_or, Some, ap, ap₂, sym, ◌∙◌, arith}
use Rattle.std.proofs.lemmas.List.{length-map, map-set, get_or-map}
use Rattle.std.proofs.Math.Seq.{map-set_same}
use Rattle.php_graph.specs.declared.kind.Kind.{Kind}
use Rattle.php_graph.specs.declared.places.Place.{Place}
use Rattle.php_graph.specs.PlaceOffsets.{kinds_at}
use Rattle.value_image.specs.Reading.{renumbered_kind}
use Rattle.value_image.proofs.MixedLists.{mixed, length-mixed, get-mixed, set-mixed, get-read}
use Rattle.value_image.proofs.numbers.renumber_places.Goals as goal

-- what is read at the next place is what was there at first
item : (f : Kind → Kind) (xs : List Kind) (ys : List Place) (i : ℕ) (p : Place) → kinds_at ys ≡ mixed f i xs → i < length ys → p ≡ get_or ys i p → slice_get xs i ≡ Some p.kind
item f xs ys i p e lt h =
    let read : p.kind ≡ get_or (kinds_at ys) i p.kind = ap (λ (q : Place). q.kind) h ∙ sym (get_or-map (λ (q : Place). q.kind) ys i p p.kind lt) in
    sym (get-mixed f i xs) ∙ (ap (λ (r : List Kind). slice_get r i) (sym e) ∙ get-read (kinds_at ys) i p.kind (omega (arith, length-map ys (λ (q : Place). q.kind))) read)

pub renumber_place-requires : goal.renumber_place-requires
renumber_place-requires c =
    let len = c.args.places.now.ok.0 in
    let high : c.loop-i.i < length c.loop-i.places.items = omega (arith, c.loop-i-test.true, c.len-i-end.ensures, ap length c.loop-i.invariant.kinds, length-mixed (renumbered_kind (slice_index c.args.table.now)) c.loop-i.i (kinds_at c.args.places.now.items), length-map c.loop-i.places.items (λ (q : Place). q.kind), length-map c.args.places.now.items (λ (q : Place). q.kind)) in
    c.requires c.loop-i.i _ (item (renumbered_kind (slice_index c.args.table.now)) (kinds_at c.args.places.now.items) c.loop-i.places.items c.loop-i.i c.index_mut.result.now c.loop-i.invariant.kinds high c.index_mut.ensures.value)

pub loop-i-preserved : goal.loop-i-preserved
loop-i-preserved c =
    let len = c.args.places.now.ok.0 in
    let high : c.loop-i.i < length c.loop-i.places.items = omega (arith, c.loop-i-test.true, c.len-i-end.ensures, ap length c.loop-i.invariant.kinds, length-mixed (renumbered_kind (slice_index c.args.table.now)) c.loop-i.i (kinds_at c.args.places.now.items), length-map c.loop-i.places.items (λ (q : Place). q.kind), length-map c.args.places.now.items (λ (q : Place). q.kind)) in
    let f = renumbered_kind (slice_index c.args.table.now) in
    let was = item f (kinds_at c.args.places.now.items) c.loop-i.places.items c.loop-i.i c.index_mut.result.now c.loop-i.invariant.kinds high c.index_mut.ensures.value in
    record {
      kinds = map-set (λ (q : Place). q.kind) c.loop-i.places.items c.loop-i.i _ ∙ ap₂ (λ (xs : List Kind) (x : Kind). slice_set xs c.loop-i.i x) c.loop-i.invariant.kinds c.renumber_place.ensures
          ∙ set-mixed f c.loop-i.i (kinds_at c.args.places.now.items) c.index_mut.result.now.kind was;
      offsets = map-set_same (λ (q : Place). q.at) c.loop-i.places.items c.loop-i.i _ c.index_mut.result.now (ap (λ (q : Place). q.at) c.index_mut.ensures.value) ∙ c.loop-i.invariant.offsets;
    }
