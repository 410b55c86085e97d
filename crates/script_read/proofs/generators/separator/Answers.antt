use Rattle.std.proofs.Common.{arith}
use Rattle.std.proofs.lemmas.Grind.{common_steps}
use Rattle.script_read.specs.Reading.{separator_at}
use Rattle.script_read.proofs.generators.separator.Goals as goal

pub returns-in-len1-up-clause-read : goal.returns-in-len1-up-clause-read
unfolding separator_at
returns-in-len1-up-clause-read c = grind (arith, common_steps)

pub returns-in-len1-up-2-clause-read : goal.returns-in-len1-up-2-clause-read
unfolding separator_at
returns-in-len1-up-2-clause-read c = grind (arith, common_steps)
