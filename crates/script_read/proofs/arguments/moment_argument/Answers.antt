use Rattle.std.proofs.Common.{arith}
use Rattle.std.proofs.lemmas.Grind.{common_steps}
use Rattle.script_read.proofs.arguments.moment_argument.Goals as goal

pub returns-in_err-argument-clause-read : goal.returns-in_err-argument-clause-read
returns-in_err-argument-clause-read c = grind (arith, common_steps)

pub returns-in_err-number-clause-read : goal.returns-in_err-number-clause-read
returns-in_err-number-clause-read c = grind (arith, common_steps)

pub returns-in-Some-clause-read : goal.returns-in-Some-clause-read
returns-in-Some-clause-read c = grind (arith, common_steps)

pub returns-in-None-clause-read : goal.returns-in-None-clause-read
returns-in-None-clause-read c = grind (arith, common_steps)

pub returns-in-Some-clause-fewer : goal.returns-in-Some-clause-fewer
returns-in-Some-clause-fewer c = grind (arith, common_steps)
