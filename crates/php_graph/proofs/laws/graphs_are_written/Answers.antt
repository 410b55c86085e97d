use Rattle.php_graph.proofs.LawCount.{count_all}
use Rattle.php_graph.proofs.LawGraphs.{reached}
use Rattle.php_graph.proofs.laws.graphs_are_written.Goals as goal

pub returns : goal.returns
returns c = λ g is. reached g is (count_all g is.sealed)
