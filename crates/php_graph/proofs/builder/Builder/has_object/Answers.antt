use Rattle.std.proofs.Common.{◌∙◌, sym, ap, arith, Option}
use Rattle.php_graph.specs.Graph.{is_object_at}
use Rattle.php_graph.specs.Building.{Draft}
use Rattle.php_graph.specs.PlaceOffsets.{PlaceList, kinds_of}
use Rattle.php_graph.specs.BuilderState.{kinds_in}
use Rattle.php_graph.proofs.DraftLemmas.{object_there}
use Rattle.php_graph.proofs.builder.Builder.has_object.Goals as goal

pub returns : goal.returns
returns c =
    c.is_object.ensures ∙ sym (object_there (kinds_of c.in-Some.places) c.args.place c.kind-kind.result.now (omega (arith, c.if-at-eq0.false)) c.kind-kind.ensures)
    ∙ ap (λ (o : Option PlaceList). is_object_at (kinds_in o) c.args.place) (sym c.in-Some.is)
    ∙ ap (λ (d : Draft). is_object_at d.places c.args.place) c.self.view_is
