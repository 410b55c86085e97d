use Rattle.std.proofs.Common.{arith}
use Rattle.std.proofs.lemmas.Grind.{common_steps}
use Rattle.script_read.specs.Reading.{space_at}
use Rattle.script_read.proofs.arguments.space.Goals as goal

pub returns-in-empty-clause-read : goal.returns-in-empty-clause-read
unfolding space_at
returns-in-empty-clause-read c = grind (arith, common_steps)

pub returns-in-empty-clause-fewer : goal.returns-in-empty-clause-fewer
returns-in-empty-clause-fewer c = grind (arith, common_steps)

pub returns-in-32-clause-read : goal.returns-in-32-clause-read
unfolding space_at
returns-in-32-clause-read c = grind (arith, common_steps)

pub returns-in-32-clause-fewer : goal.returns-in-32-clause-fewer
returns-in-32-clause-fewer c = grind (arith, common_steps)

pub returns-in-10-clause-read : goal.returns-in-10-clause-read
unfolding space_at
returns-in-10-clause-read c = grind (arith, common_steps)

pub returns-in-10-clause-fewer : goal.returns-in-10-clause-fewer
returns-in-10-clause-fewer c = grind (arith, common_steps)

pub returns-in-len1-up-clause-read : goal.returns-in-len1-up-clause-read
unfolding space_at
returns-in-len1-up-clause-read c = grind (arith, common_steps)

pub returns-in-len1-up-clause-fewer : goal.returns-in-len1-up-clause-fewer
returns-in-len1-up-clause-fewer c = grind (arith, common_steps)
