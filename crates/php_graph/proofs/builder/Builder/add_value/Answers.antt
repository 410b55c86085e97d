use Rattle.std.proofs.Common.{◌≡◌, ◌∙◌, ◌+◌, sym, ap, subst, List, arith, length, Option, ◌++◌, ◌∷◌, []}
use Rattle.php_graph.specs.declared.container.Container.{Container}
use Rattle.php_graph.specs.declared.key.Key.{Key}
use Rattle.php_graph.specs.declared.child.Child.TheVariants.{Own}
use Rattle.php_graph.specs.Building.{Draft, wants_of, room_fault, attached, is_container}
use Rattle.php_graph.specs.BuilderState.{CanAttach, IsBuilding, IsNewKind, IsNewValue, kinds_in, places_of, draft_of}
use Rattle.php_graph.proofs.InnermostContainers.{can_attach}
use Rattle.php_graph.proofs.BuilderAfterItem.{has_room, building_value, opens_is}
use Rattle.php_graph.proofs.builder.Builder.add_value.Goals as goal

pub push_place-requires-clause-can : goal.push_place-requires-clause-can
push_place-requires-clause-can c =
    let same = c.deref.ensures.value ∙ c.make_room.ensures.items in
    subst (λ (cs : List Container). CanAttach (kinds_in c.self.inside.places) (places_of cs) c.self.inside.key) (sym same) (can_attach (kinds_in c.self.inside.places) (places_of c.self.inside.containers.items) c.self.inside.key c.self.invariant.draft)

pub invariant_of-self-2 : goal.invariant_of-self-2
invariant_of-self-2 c =
    let same = c.deref.ensures.value ∙ c.make_room.ensures.items in
    let wants = ap wants_of c.self.view_is ∙ c.requires.wanted in
    let g = kinds_in c.self.inside.places in
    let cs = c.self.inside.containers.items in
    let room = has_room (draft_of g cs c.self.inside.key) (ap room_fault c.self.view_is ∙ c.requires.room) in
    let new_kind : IsNewKind g c.args.kind = subst (λ (d : Draft). IsNewKind d.places c.args.kind) (sym c.self.view_is) c.requires.new_value in
    let new : IsNewValue g c.args.kind = record { childless = new_kind.childless; well_formed = new_kind.well_formed; fits = c.check.ensures new_kind.childless; target = new_kind.target } in
    let number : c.len.result ≡ length g = c.len.ensures ∙ sym (ap (λ (d : Draft). length d.places) c.self.view_is) in
    let is : kinds_in c.push_place.new.places ≡ attached g (places_of cs) c.self.inside.key (Own (length g + 1)) ++ c.args.kind ∷ [] =
    c.in_ok-push_place.ensures.ok ∙ ap (λ (xs : List Container). attached g (places_of xs) c.self.inside.key (Own (length g + 1)) ++ c.args.kind ∷ []) same in
    let opens = opens_is (is_container c.args.kind) c.is_container-opens.result (length g + 1) (c.len.result + 1) cs c.make_room.new.containers.items c.open_container.new.containers.items
    c.is_container-opens.ensures (omega (arith, number)) c.make_room.ensures.items c.open_container.ensures in
    let built = building_value g (kinds_in c.push_place.new.places) cs c.open_container.new.containers.items c.self.inside.key c.self.inside.values c.args.kind
    c.self.invariant wants room new is opens in
    subst (λ (k : Option Key). IsBuilding (kinds_in c.push_place.new.places) c.open_container.new.containers.items k (c.self.inside.values + 1)) (sym c.in_ok-push_place.ensures.used) built
