use Rattle.std.proofs.Common.{arith}
use Rattle.std.proofs.lemmas.Grind.{common_steps}
use Rattle.value_image.proofs.numbers.renumbered.Goals as goal

pub returns-in-Own : goal.returns-in-Own
returns-in-Own c = grind (arith, common_steps)

pub returns-in-Back : goal.returns-in-Back
returns-in-Back c = grind (arith, common_steps)
