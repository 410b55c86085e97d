use Rattle.std.proofs.Common.{arith}
use Rattle.std.proofs.lemmas.Grind.{common_steps}
use Rattle.value_image.proofs.read.read_scalar.Goals as goal

pub returns-in-0-clause-scalar : goal.returns-in-0-clause-scalar
returns-in-0-clause-scalar g c = grind (arith, common_steps)

pub returns-in-1-clause-scalar : goal.returns-in-1-clause-scalar
returns-in-1-clause-scalar g c = grind (arith, common_steps)

pub returns-in-2-clause-scalar : goal.returns-in-2-clause-scalar
returns-in-2-clause-scalar g c = grind (arith, common_steps)

pub returns-in_default-clause-scalar : goal.returns-in_default-clause-scalar
returns-in_default-clause-scalar g c = grind (arith, common_steps)

pub overflow_add-at : goal.overflow_add-at
overflow_add-at g c = grind (arith, common_steps)

pub overflow_add-result : goal.overflow_add-result
overflow_add-result g c = grind (arith, common_steps)

pub overflow_add-result-in-1 : goal.overflow_add-result-in-1
overflow_add-result-in-1 g c = grind (arith, common_steps)

pub overflow_add-result-in-2 : goal.overflow_add-result-in-2
overflow_add-result-in-2 g c = grind (arith, common_steps)

pub load-number-requires : goal.load-number-requires
load-number-requires g c = grind (arith, common_steps)
