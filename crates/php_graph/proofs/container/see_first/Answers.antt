use Rattle.std.proofs.Common.{arith}
use Rattle.std.proofs.lemmas.Grind.{common_steps}
use Rattle.php_graph.proofs.container.see_first.Goals as goal

pub returns-else-has_key-clause-answer : goal.returns-else-has_key-clause-answer
returns-else-has_key-clause-answer c = grind (arith, common_steps)

pub returns-else-has_key-clause-ok : goal.returns-else-has_key-clause-ok
returns-else-has_key-clause-ok c = grind (arith, common_steps)
