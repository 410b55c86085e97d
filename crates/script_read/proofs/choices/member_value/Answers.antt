use Rattle.std.proofs.Common.{arith}
use Rattle.std.proofs.lemmas.Grind.{common_steps}
use Rattle.script_read.proofs.choices.member_value.Goals as goal

pub returns-in-Back : goal.returns-in-Back
returns-in-Back c = grind (arith, common_steps)

pub returns-in-Same : goal.returns-in-Same
returns-in-Same c = grind (arith, common_steps)

pub returns-in_default : goal.returns-in_default
returns-in_default c = grind (arith, common_steps)
