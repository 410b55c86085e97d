use Rattle.std.proofs.Common.{arith}
use Rattle.std.proofs.lemmas.Grind.{common_steps}
use Rattle.php_graph.proofs.numbers.is_class_byte.Goals as goal

pub returns-in-48-to-57 : goal.returns-in-48-to-57
returns-in-48-to-57 c = grind (arith, common_steps)

pub returns-in-48-to-57-2 : goal.returns-in-48-to-57-2
returns-in-48-to-57-2 c = grind (arith, common_steps)

pub returns-in-48-to-57-3 : goal.returns-in-48-to-57-3
returns-in-48-to-57-3 c = grind (arith, common_steps)

pub returns-in-48-to-57-4 : goal.returns-in-48-to-57-4
returns-in-48-to-57-4 c = grind (arith, common_steps)

pub returns-in-48-to-57-5 : goal.returns-in-48-to-57-5
returns-in-48-to-57-5 c = grind (arith, common_steps)

pub returns-in_default : goal.returns-in_default
returns-in_default c = grind (arith, common_steps)
