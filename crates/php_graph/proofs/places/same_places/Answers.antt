use Rattle.std.proofs.Common.{arith}
use Rattle.std.proofs.lemmas.Grind.{common_steps}
use Rattle.php_graph.proofs.PlaceLemmas.{same_at}
use Rattle.php_graph.proofs.places.same_places.Goals as goal

pub loop-i-preserved : goal.loop-i-preserved
loop-i-preserved c = grind (arith, common_steps)

pub returns : goal.returns
returns c = grind (arith, common_steps)

pub returns-then-not-same : goal.returns-then-not-same
returns-then-not-same c = grind (arith, same_at)
