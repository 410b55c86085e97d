use Rattle.std.proofs.Common.{arith}
use Rattle.std.proofs.lemmas.Grind.{common_steps}
use Rattle.script_read.proofs.arguments.list_argument.Goals as goal

pub returns-then-ends_here-clause-read : goal.returns-then-ends_here-clause-read
returns-then-ends_here-clause-read c = grind (arith, common_steps)

pub returns-in_err-argument-clause-read : goal.returns-in_err-argument-clause-read
returns-in_err-argument-clause-read c = grind (arith, common_steps)

pub returns-in_err-graph-clause-read : goal.returns-in_err-graph-clause-read
returns-in_err-graph-clause-read c = grind (arith, common_steps)

pub returns-in-Some-clause-read : goal.returns-in-Some-clause-read
returns-in-Some-clause-read c = grind (arith, common_steps)

pub returns-clause-read : goal.returns-clause-read
returns-clause-read c = grind (arith, common_steps)

pub returns-in-Some-clause-no_more : goal.returns-in-Some-clause-no_more
returns-in-Some-clause-no_more c = grind (arith, common_steps)
