use Rattle.std.proofs.Common.{◌≡◌, ◌∙◌, ◌+◌, ◌<◌, ◌^◌, sym, ap, subst, arith, true, Some, length}
use Rattle.php_graph.specs.declared.kind.Kind.{Kind}
use Rattle.php_graph.specs.declared.key.Key.{Key}
use Rattle.std.specs.Prelude.{Option}
use Rattle.php_graph.specs.Graph.{children_of, is_object}
use Rattle.php_graph.specs.Building.{attached, is_name}
use Rattle.php_graph.specs.PlaceOffsets.{kinds_of}
use Rattle.php_graph.specs.BuilderState.{CanTake, CanAttach, places_of}
use Rattle.php_graph.proofs.DraftLemmas.{place_is, slice_at, one_kind}
use Rattle.php_graph.proofs.InnermostContainers.{can_take, attached_last}
use Rattle.php_graph.proofs.draft_steps.attach.Goals as goal
use Rattle.php_graph.proofs.draft_steps.attach.Goals.{In-Some-take}

key_is : (c : In-Some-take) → c.args.key.now ≡ Some c.in-Some-take.name
key_is c = sym c.take.ensures.value ∙ c.in-Some-take.is

can : (c : In-Some-take) → CanTake (kinds_of c.args.places.now) c.in-Some.container.now.place c.in-Some-take.name
can c = can_take (kinds_of c.args.places.now) c.args.containers.now c.in-Some.container.now c.in-Some-take.name (sym c.in-Some.ensures.value) (subst (λ (k : Option Key). CanAttach (kinds_of c.args.places.now) (places_of c.args.containers.now) k) (key_is c) c.requires)

pub add-requires-clause-there : goal.add-requires-clause-there
add-requires-clause-there c =
    let t = can (goal.at.add-requires-clause-there c).In-Some-take in
    let place = place_is (kinds_of c.args.places.now) c.in-Some.container.now.place t.kind t.there in
    omega (arith, place.low, place.high)

pub add-requires-clause-room : goal.add-requires-clause-room
add-requires-clause-room c = λ kind e.
    let t = can (goal.at.add-requires-clause-room c).In-Some-take in
    subst (λ (k : Kind). length (children_of k) + 1 < 2 ^ 32) (sym (one_kind (kinds_of c.args.places.now) c.in-Some.container.now.place t.kind kind t.there e)) t.room

pub add-requires-clause-named : goal.add-requires-clause-named
add-requires-clause-named c = λ kind e.
    let t = can (goal.at.add-requires-clause-named c).In-Some-take in
    subst (λ (k : Kind). is_object k ≡ true → is_name c.in-Some-take.name ≡ true) (sym (one_kind (kinds_of c.args.places.now) c.in-Some.container.now.place t.kind kind t.there e)) t.named

pub returns-in-Ok-clause-ok : goal.returns-in-Ok-clause-ok
returns-in-Ok-clause-ok c =
    let t = can (goal.at.returns-in-Ok-clause-ok c).In-Some-take in
    let g = kinds_of c.args.places.now in
    c.in-Ok.ensures.ok t.kind (slice_at g c.in-Some.container.now.place t.kind t.there)
    ∙ sym (attached_last g c.args.containers.now c.in-Some.container.now c.in-Some-take.name c.args.child t.kind (sym c.in-Some.ensures.value) t.there)
    ∙ ap (λ (k : Option Key). attached g (places_of c.args.containers.now) k c.args.child) (sym (key_is (goal.at.returns-in-Ok-clause-ok c).In-Some-take))
