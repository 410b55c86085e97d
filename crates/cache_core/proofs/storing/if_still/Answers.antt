use Rattle.std.proofs.Common.{arith}
use Rattle.std.proofs.lemmas.Grind.{common_steps}
use Rattle.cache_core.proofs.storing.if_still.Goals as goal

pub returns-then-after-before : goal.returns-then-after-before
returns-then-after-before c = grind (arith, common_steps)

pub returns-else-after-before : goal.returns-else-after-before
returns-else-after-before c = grind (arith, common_steps)
