use Rattle.std.proofs.Common.{◌≡◌, ◌⊎◌, sym, subst}
use Rattle.php_graph.specs.declared.item.Wants.TheVariants.{ArrayKey, Name}
use Rattle.php_graph.specs.Building.{Draft, wants_of}
use Rattle.php_graph.specs.BuilderState.{kinds_in, places_of}
use Rattle.php_graph.proofs.BuilderAfterItem.{wants_no_value, popped}
use Rattle.php_graph.proofs.builder.Builder.close.Goals as goal

pub invariant_of-self : goal.invariant_of-self
invariant_of-self c =
    let wants = subst (λ (d : Draft). (wants_of d ≡ ArrayKey) ⊎ (wants_of d ≡ Name)) (sym c.self.view_is) c.requires in
    let w = wants_no_value (kinds_in c.self.inside.places) (places_of c.self.inside.containers.items) c.self.inside.key c.self.invariant.draft wants in
    popped (kinds_in c.self.inside.places) c.self.inside.containers.items c.pop.new.self.items c.self.inside.key c.self.inside.values c.pop.result c.self.invariant w.0 w.1 c.pop.ensures.items
