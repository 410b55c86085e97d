use Rattle.std.proofs.Common.{arith}
use Rattle.std.proofs.lemmas.Grind.{common_steps}
use Rattle.worker_play.proofs.walks.next_slot.Goals as goal

pub returns-then-from-end-clause-is : goal.returns-then-from-end-clause-is
returns-then-from-end-clause-is c = grind (arith, common_steps)

pub returns-then-from-end-clause-up : goal.returns-then-from-end-clause-up
returns-then-from-end-clause-up c = grind (arith, common_steps)

pub returns-else-from-end-clause-is : goal.returns-else-from-end-clause-is
returns-else-from-end-clause-is c = grind (arith, common_steps)

pub returns-else-from-end-clause-up : goal.returns-else-from-end-clause-up
returns-else-from-end-clause-up c = grind (arith, common_steps)
