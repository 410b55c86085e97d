use Rattle.std.proofs.Common.{◌≡◌, sym, subst, List, Option}
use Rattle.std.specs.Prelude.{IfOk}
use Rattle.std.specs.Option.{option_map}
use Rattle.php_graph.specs.declared.kind.Kind.{Kind}
use Rattle.php_graph.specs.Graph.{part_of}
use Rattle.php_graph.proofs.PartLemmas.{part_from, part_ok}
use Rattle.php_graph.specs.PlaceOffsets.{kinds_of}
use Rattle.php_graph.proofs.graph.part_places.Goals as goal
use Rattle.php_graph.proofs.graph.part_places.Goals.{After-lowered}

is_part : (c : After-lowered) → IfOk c.lowered.result (λ part. option_map kinds_of part ≡ part_of (kinds_of c.args.places.now) c.args.k)
is_part c = subst (λ (o : Option (List Kind)). IfOk c.lowered.result (λ part. option_map kinds_of part ≡ o)) (sym (part_from (kinds_of c.args.places.now) c.args.k c.end_of-end.result c.end_of-end.ensures.end c.requires.from_one c.end_of-end.ensures.after)) c.lowered.ensures

pub returns-clause-part : goal.returns-clause-part
returns-clause-part c = is_part (goal.at.returns-clause-part c).After-lowered

pub returns-clause-graph : goal.returns-clause-graph
returns-clause-graph c = part_ok (kinds_of c.args.places.now) c.args.k c.lowered.result c.requires.graph c.requires.few c.requires.from_one c.requires.there (is_part (goal.at.returns-clause-graph c).After-lowered)
