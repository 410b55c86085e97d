use Rattle.std.proofs.Common.{◌∙◌, ◌+◌, ◌++◌, ◌∷◌, [], ap, sym, subst, List, length, Option}
use Rattle.php_graph.specs.declared.kind.Kind.{Kind}
use Rattle.php_graph.specs.declared.child.Child.TheVariants.{Own}
use Rattle.php_graph.specs.Building.{attached}
use Rattle.php_graph.specs.PlaceOffsets.{PlaceList, kinds_of}
use Rattle.php_graph.specs.BuilderState.{CanAttach, kinds_in, places_of}
use Rattle.php_graph.proofs.InnermostContainers.{attached_nothing, no_key}
use Rattle.php_graph.proofs.draft_steps.push_place.Goals as goal

pub returns-in-None-clause-ok : goal.returns-in-None-clause-ok
returns-in-None-clause-ok c =
    let ps = places_of c.args.containers.now in
    let new = c.args.kind ∷ [] in
    ap kinds_of c.new.ensures
    ∙ ap (λ (g : List Kind). g ++ new) (sym (attached_nothing ps c.args.key.now (Own 1)))
    ∙ ap (λ (o : Option PlaceList). attached (kinds_in o) ps c.args.key.now (Own (length (kinds_in o) + 1)) ++ new) (sym c.in-None.is)

pub returns-in-None-clause-used : goal.returns-in-None-clause-used
returns-in-None-clause-used c =
    let ps = places_of c.args.containers.now in
    no_key ps c.args.key.now (subst (λ (o : Option PlaceList). CanAttach (kinds_in o) ps c.args.key.now) c.in-None.is c.requires.can)
