use Rattle.std.proofs.Common.{◌≡◌, ◌∙◌, ◌+◌, ◌≤◌, sym, ap, ap₂, subst, List, length, arith, Option}
use Rattle.std.proofs.lemmas.Grind.{common_steps}
use Rattle.php_graph.specs.declared.container.Container.{Container}
use Rattle.php_graph.specs.declared.key.Key.{Key}
use Rattle.php_graph.specs.declared.kind.Kind.{Kind}
use Rattle.php_graph.specs.declared.child.Child.TheVariants.{Back}
use Rattle.php_graph.specs.Building.{Draft, wants_of, room_fault, attached, with_back}
use Rattle.php_graph.specs.PlaceOffsets.{PlaceList, kinds_of}
use Rattle.php_graph.specs.BuilderState.{CanAttach, IsBuilding, kinds_in, places_of, draft_of}
use Rattle.php_graph.proofs.InnermostContainers.{can_attach}
use Rattle.php_graph.proofs.BuilderAfterItem.{has_room, building_back}
use Rattle.php_graph.proofs.builder.Builder.push_back.Goals as goal

pub attach-requires : goal.attach-requires
attach-requires c =
    let g = kinds_in c.self.inside.places in
    let can = can_attach g (places_of c.self.inside.containers.items) c.self.inside.key c.self.invariant.draft in
    rw c.deref.ensures.value (subst (λ (o : Option PlaceList). CanAttach (kinds_in o) (places_of c.self.inside.containers.items) c.self.inside.key) c.in-Some.is can)

pub invariant_of-self-2 : goal.invariant_of-self-2
invariant_of-self-2 c =
    let g = kinds_in c.self.inside.places in
    let cs = c.self.inside.containers.items in
    let wants = ap wants_of c.self.view_is ∙ c.requires in
    let room = has_room (draft_of g cs c.self.inside.key) (ap room_fault c.self.view_is ∙ c.in_ok-room.ensures) in
    let is : kinds_of c.attach.new.places ≡ attached g (places_of cs) c.self.inside.key (Back c.args.place) =
    c.in_ok-attach.ensures.ok ∙ ap (λ (xs : List Container). attached (kinds_of c.in-Some.places) (places_of xs) c.self.inside.key (Back c.args.place)) c.deref.ensures.value
    ∙ ap (λ (o : Option PlaceList). attached (kinds_in o) (places_of cs) c.self.inside.key (Back c.args.place)) (sym c.in-Some.is) in
    let within : c.args.place ≤ length g = omega (arith, c.if-place-len.false, c.len.ensures, ap (λ (o : Option PlaceList). length (kinds_in o)) c.in-Some.is) in
    let built = building_back g (kinds_of c.attach.new.places) cs c.self.inside.key c.self.inside.values c.args.place c.self.invariant wants room (omega (arith, c.if-place-eq0.false)) within is in
    subst (λ (k : Option Key). IsBuilding (kinds_of c.attach.new.places) cs k (c.self.inside.values + 1)) (sym c.in_ok-attach.ensures.used) built

pub returns-clause-ok : goal.returns-clause-ok
returns-clause-ok c =
    let g = kinds_in c.self.inside.places in
    let cs = c.self.inside.containers.items in
    let is : kinds_of c.attach.new.places ≡ attached g (places_of cs) c.self.inside.key (Back c.args.place) =
    c.in_ok-attach.ensures.ok ∙ ap (λ (xs : List Container). attached (kinds_of c.in-Some.places) (places_of xs) c.self.inside.key (Back c.args.place)) c.deref.ensures.value
    ∙ ap (λ (o : Option PlaceList). attached (kinds_in o) (places_of cs) c.self.inside.key (Back c.args.place)) (sym c.in-Some.is) in
    ap₂ (λ (xs : List Kind) (k : Option Key). draft_of xs cs k) is c.in_ok-attach.ensures.used ∙ ap (λ (d : Draft). with_back d c.args.place) c.self.view_is

pub returns-in_err-attach-clause-answer : goal.returns-in_err-attach-clause-answer
returns-in_err-attach-clause-answer c = grind (arith, common_steps)

pub returns-clause-answer : goal.returns-clause-answer
returns-clause-answer c = grind (arith, common_steps)
