use Rattle.std.proofs.Common.{arith}
use Rattle.std.proofs.lemmas.Grind.{common_steps}
use Rattle.script_read.proofs.arguments.step_argument.Goals as goal

pub returns-then-ends_here-clause-read : goal.returns-then-ends_here-clause-read
returns-then-ends_here-clause-read c = grind (arith, common_steps)

pub returns-then-ends_here-clause-no_more : goal.returns-then-ends_here-clause-no_more
returns-then-ends_here-clause-no_more c = grind (arith, common_steps)

pub returns-clause-read : goal.returns-clause-read
returns-clause-read c = grind (arith, common_steps)

pub returns-clause-no_more : goal.returns-clause-no_more
returns-clause-no_more c = grind (arith, common_steps)
