use Rattle.std.proofs.Common.{arith}
use Rattle.std.proofs.lemmas.Grind.{common_steps}
use Rattle.script_read.proofs.choices.truth_of.Goals as goal

pub returns-then-places-ne1 : goal.returns-then-places-ne1
returns-then-places-ne1 c = grind (arith, common_steps)

pub returns-in-Bool : goal.returns-in-Bool
returns-in-Bool c = grind (arith, common_steps)

pub returns-in_default : goal.returns-in_default
returns-in_default c = grind (arith, common_steps)
