use Rattle.std.proofs.Common.{◌≡◌, ◌∙◌, ap, subst, List, ℕ, Option}
use Rattle.php_graph.specs.declared.item.Wants.TheVariants.{Done}
use Rattle.php_graph.specs.Graph.{IsGraph}
use Rattle.php_graph.specs.Building.{wants_by, wants_of}
use Rattle.php_graph.specs.PlaceOffsets.{PlaceList}
use Rattle.php_graph.specs.BuilderState.{IsDraft, kinds_in, places_of}
use Rattle.php_graph.proofs.DraftAfterItem.{done_graph, done_on_top}
use Rattle.php_graph.proofs.builder.Builder.seal.Goals as goal

pub from_parts-requires-clause-graph : goal.from_parts-requires-clause-graph
from_parts-requires-clause-graph c =
    let g = kinds_in c.self.inside.places in
    let key = c.self.inside.key in
    let wants = ap wants_of c.self.view_is ∙ c.requires in
    let top = done_on_top g (places_of c.self.inside.containers.items) key wants in
    let draft = subst (λ (ps : List ℕ). IsDraft g ps key) top c.self.invariant.draft in
    let done = done_graph g key draft (subst (λ (ps : List ℕ). wants_by g ps key ≡ Done) top wants) in
    subst (λ (o : Option PlaceList). IsGraph (kinds_in o)) c.in-Some.is done.0
