use Rattle.std.proofs.Common.{arith}
use Rattle.std.proofs.lemmas.Grind.{common_steps}
use Rattle.script_read.proofs.searches.chunk_size_of.Goals as goal

pub returns-in-Some-clause-is : goal.returns-in-Some-clause-is
returns-in-Some-clause-is c = grind (arith, common_steps)

pub returns-in-Some-clause-some : goal.returns-in-Some-clause-some
returns-in-Some-clause-some c = grind (arith, common_steps)

pub returns-in-Some-clause-few : goal.returns-in-Some-clause-few
returns-in-Some-clause-few c = grind (arith, common_steps)

pub returns-in_default-clause-is : goal.returns-in_default-clause-is
returns-in_default-clause-is c = grind (arith, common_steps)

pub returns-in_default-clause-some : goal.returns-in_default-clause-some
returns-in_default-clause-some c = grind (arith, common_steps)

pub returns-in_default-clause-few : goal.returns-in_default-clause-few
returns-in_default-clause-few c = grind (arith, common_steps)

pub returns-in_default-2-clause-is : goal.returns-in_default-2-clause-is
returns-in_default-2-clause-is c = grind (arith, common_steps)

pub returns-in_default-2-clause-some : goal.returns-in_default-2-clause-some
returns-in_default-2-clause-some c = grind (arith, common_steps)

pub returns-in_default-2-clause-few : goal.returns-in_default-2-clause-few
returns-in_default-2-clause-few c = grind (arith, common_steps)

pub returns-in_default-3-clause-is : goal.returns-in_default-3-clause-is
returns-in_default-3-clause-is c = grind (arith, common_steps)

pub returns-in_default-3-clause-some : goal.returns-in_default-3-clause-some
returns-in_default-3-clause-some c = grind (arith, common_steps)

pub returns-in_default-3-clause-few : goal.returns-in_default-3-clause-few
returns-in_default-3-clause-few c = grind (arith, common_steps)
