use Rattle.std.proofs.Common.{arith}
use Rattle.std.proofs.lemmas.Grind.{common_steps}
use Rattle.php_graph.proofs.places.lowered.Goals as goal

pub returns-in_default : goal.returns-in_default
returns-in_default c = grind (arith, common_steps)

pub loop-place-preserved : goal.loop-place-preserved
loop-place-preserved c = grind (arith, common_steps)

pub returns : goal.returns
returns c = grind (arith, common_steps)
