use Rattle.std.proofs.Common.{arith}
use Rattle.std.proofs.lemmas.Grind.{common_steps}
use Rattle.value_image.proofs.bytes.push_eight.Goals as goal

pub push_word-requires : goal.push_word-requires
push_word-requires c = grind (arith, common_steps)

pub words-preserved : goal.words-preserved
words-preserved c = grind (arith, common_steps)

pub returns-clause-bytes : goal.returns-clause-bytes
returns-clause-bytes c = grind (arith, common_steps)

pub returns-clause-len : goal.returns-clause-len
returns-clause-len c = grind (arith, common_steps)

pub returns-clause-capacity : goal.returns-clause-capacity
returns-clause-capacity c = grind (arith, common_steps)
