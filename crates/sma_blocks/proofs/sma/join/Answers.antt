use Rattle.std.proofs.Common.{arith}
use Rattle.std.proofs.lemmas.Grind.{common_steps}
use Rattle.sma_blocks.proofs.sma.join.Goals as goal

pub put-requires-clause-inside : goal.put-requires-clause-inside
put-requires-clause-inside c = grind (arith, common_steps)

pub returns-else-end-last : goal.returns-else-end-last
returns-else-end-last c = grind (arith, common_steps)

pub returns-then-end-last : goal.returns-then-end-last
returns-then-end-last c = grind (arith, common_steps)
