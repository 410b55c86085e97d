use Rattle.std.proofs.Common.{arith}
use Rattle.std.proofs.lemmas.Grind.{common_steps}
use Rattle.conf_read.proofs.numbers.unit_of.Goals as goal

pub returns-in-75 : goal.returns-in-75
returns-in-75 c = grind (arith, common_steps)

pub returns-in-77 : goal.returns-in-77
returns-in-77 c = grind (arith, common_steps)

pub returns-in-71 : goal.returns-in-71
returns-in-71 c = grind (arith, common_steps)

pub returns-in_default : goal.returns-in_default
returns-in_default c = grind (arith, common_steps)
