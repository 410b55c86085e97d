use Rattle.std.proofs.Common.{arith}
use Rattle.std.proofs.lemmas.Grind.{common_steps}
use Rattle.script_read.proofs.choices.moment_of.Goals as goal

pub returns-in-Some-clause-is : goal.returns-in-Some-clause-is
returns-in-Some-clause-is c = grind (arith, common_steps)

pub returns-in-Some-clause-soon : goal.returns-in-Some-clause-soon
returns-in-Some-clause-soon c = grind (arith, common_steps)

pub returns-in_default-clause-is : goal.returns-in_default-clause-is
returns-in_default-clause-is c = grind (arith, common_steps)

pub returns-in_default-clause-soon : goal.returns-in_default-clause-soon
returns-in_default-clause-soon c = grind (arith, common_steps)

pub returns-in_default-2-clause-is : goal.returns-in_default-2-clause-is
returns-in_default-2-clause-is c = grind (arith, common_steps)

pub returns-in_default-2-clause-soon : goal.returns-in_default-2-clause-soon
returns-in_default-2-clause-soon c = grind (arith, common_steps)

pub returns-in_default-3-clause-is : goal.returns-in_default-3-clause-is
returns-in_default-3-clause-is c = grind (arith, common_steps)

pub returns-in_default-3-clause-soon : goal.returns-in_default-3-clause-soon
returns-in_default-3-clause-soon c = grind (arith, common_steps)
