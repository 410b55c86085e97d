use Rattle.std.proofs.Common.{arith}
use Rattle.std.proofs.lemmas.Grind.{common_steps}
use Rattle.value_image.proofs.read_members.child_in.Goals as goal

pub returns-then-word-eq0 : goal.returns-then-word-eq0
returns-then-word-eq0 c = grind (arith, common_steps)

pub returns-else-word-eq0 : goal.returns-else-word-eq0
returns-else-word-eq0 c = grind (arith, common_steps)
