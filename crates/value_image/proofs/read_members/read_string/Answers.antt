use Rattle.std.proofs.Common.{arith}
use Rattle.std.proofs.lemmas.Grind.{common_steps}
use Rattle.value_image.proofs.read_members.read_string.Goals as goal

pub load-tag-requires : goal.load-tag-requires
load-tag-requires g c = grind (arith, common_steps)

pub read_text-requires : goal.read_text-requires
read_text-requires g c = grind (arith, common_steps)

pub returns-clause-string : goal.returns-clause-string
returns-clause-string g c = grind (arith, common_steps)
