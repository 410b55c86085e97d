use Rattle.std.proofs.Common.{arith}
use Rattle.std.proofs.lemmas.Grind.{common_steps}
use Rattle.php_graph.proofs.container.no_memory.Goals as goal

pub returns-else-has_key : goal.returns-else-has_key
returns-else-has_key c = grind (arith, common_steps)
