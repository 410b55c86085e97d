use Rattle.std.proofs.Common.{arith}
use Rattle.std.proofs.lemmas.Grind.{common_steps}
use Rattle.php_graph.proofs.numbers.is_canonical.Goals as goal

pub returns-else-first-ne48 : goal.returns-else-first-ne48
returns-else-first-ne48 c = grind (arith, common_steps)
