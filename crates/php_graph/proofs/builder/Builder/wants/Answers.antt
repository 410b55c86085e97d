use Rattle.std.proofs.Common.{◌≡◌, ◌∙◌, ◌-◌, sym, ap, subst, arith, length, List, Some, cond, Bool, Option}
use Rattle.std.specs.List.{slice_get}
use Rattle.php_graph.specs.declared.container.Container.{Container}
use Rattle.php_graph.specs.declared.item.Wants.TheVariants.{ArrayKey, Name}
use Rattle.php_graph.specs.Building.{wants_of}
use Rattle.php_graph.specs.PlaceOffsets.{PlaceList, kinds_of}
use Rattle.php_graph.specs.BuilderState.{IsDraft, draft_of, kinds_in, places_of}
use Rattle.php_graph.proofs.InnermostContainers.{innermost_is, wants_here}
use Rattle.php_graph.proofs.builder.Builder.wants.Goals as goal
use Rattle.php_graph.proofs.builder.Builder.wants.Goals.{In-Some-last, After-is_array}

last_is : (c : In-Some-last) → slice_get c.self.inside.containers.items (length c.self.inside.containers.items - 1) ≡ Some c.in-Some-last.container.now
last_is c = subst (λ (cs : List Container). slice_get cs (length cs - 1) ≡ Some c.in-Some-last.container.now) c.deref.ensures.value (sym c.in-Some-last.ensures.value)

draft_is : (c : In-Some-last) → IsDraft (kinds_of c.in-Some.places) (places_of c.self.inside.containers.items) c.self.inside.key
draft_is c = subst (λ (o : Option PlaceList). IsDraft (kinds_in o) (places_of c.self.inside.containers.items) c.self.inside.key) c.in-Some.is c.self.invariant.draft

pub kind-kind-requires : goal.kind-kind-requires
kind-kind-requires c =
    let here = (goal.at.kind-kind-requires c).In-Some-last in
    let i = innermost_is (kinds_of c.in-Some.places) c.self.inside.containers.items c.self.inside.key c.in-Some-last.container.now (draft_is here) (last_is here) in
    omega (arith, i.low, i.high)

here : (c : After-is_array) → slice_get c.self.inside.containers.items (length c.self.inside.containers.items - 1) ≡ Some c.in-Some-last.container.now → IsDraft (kinds_of c.in-Some.places) (places_of c.self.inside.containers.items) c.self.inside.key → wants_of c.args.self.now ≡ cond c.is_array.result ArrayKey Name
here c last draft = sym (ap wants_of c.self.view_is) ∙ ap (λ (o : Option PlaceList). wants_of (draft_of (kinds_in o) c.self.inside.containers.items c.self.inside.key)) c.in-Some.is
    ∙ wants_here (kinds_of c.in-Some.places) c.self.inside.containers.items c.self.inside.key c.in-Some-last.container.now c.is_array.result c.kind-kind.result.now
    draft last c.if-is_some.ensures c.kind-kind.ensures c.is_array.ensures

pub returns-then-is_array : goal.returns-then-is_array
returns-then-is_array c =
    let at = (goal.at.returns-then-is_array c).In-Some-last in
    sym (here (goal.at.returns-then-is_array c).After-is_array (last_is at) (draft_is at) ∙ ap (λ (b : Bool). cond b ArrayKey Name) c.if-is_array.true)

pub returns-else-is_array : goal.returns-else-is_array
returns-else-is_array c =
    let at = (goal.at.returns-else-is_array c).In-Some-last in
    sym (here (goal.at.returns-else-is_array c).After-is_array (last_is at) (draft_is at) ∙ ap (λ (b : Bool). cond b ArrayKey Name) c.if-is_array.false)
