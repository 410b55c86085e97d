use Rattle.std.proofs.Common.{arith}
use Rattle.std.proofs.lemmas.Grind.{common_steps}
use Rattle.php_graph.proofs.child.Child.lowered.Goals as goal

pub returns-in-Back : goal.returns-in-Back
returns-in-Back c = grind (arith, common_steps)
