use Rattle.std.proofs.Common.{◌≡◌, ◌<◌, List, [], ◌∷◌, refl, arith}
use Rattle.php_graph.specs.declared.kind.Kind.{Kind}
use Rattle.php_graph.specs.declared.item.Wants.TheVariants.{Done}
use Rattle.php_graph.specs.Graph.{levels, end_of, IsGraph}
use Rattle.php_graph.specs.Building.{all_drafted, wants_of}
use Rattle.php_graph.proofs.EndLemmas.{own_grows}
use Rattle.php_graph.proofs.LawPushedItems.{written_items}
use Rattle.php_graph.proofs.LawSteps.{drafted_graph, drafted_alone}
use Rattle.php_graph.proofs.laws.written_graphs.Goals as goal

pub returns-clause-graph : goal.returns-clause-graph
returns-clause-graph c = λ is d fits h wants. (drafted_graph is d fits h wants).0

pub returns-clause-alone : goal.returns-clause-alone
returns-clause-alone c = drafted_alone

pub returns-clause-items : goal.returns-clause-items
returns-clause-items c = written_items

-- a graph has a place, since its value ends after it began
whole_done : (g : List Kind) → IsGraph g → wants_of (all_drafted g) ≡ Done
unfolding end_of
whole_done [] graph = let more : 1 < 1 = own_grows levels [] 1 1 1 graph.sealed in absurd (omega arith)
whole_done (kind ∷ ks) graph = refl

pub returns-clause-done : goal.returns-clause-done
returns-clause-done c = whole_done
