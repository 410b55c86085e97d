use Rattle.std.proofs.Common.{arith}
use Rattle.std.proofs.lemmas.Grind.{common_steps}
use Rattle.script_read.proofs.searches.list_named.Goals as goal

pub returns-then-is_word : goal.returns-then-is_word
returns-then-is_word c = grind (arith, common_steps)

pub returns-then-is_word-2 : goal.returns-then-is_word-2
returns-then-is_word-2 c = grind (arith, common_steps)

pub returns-else-is_word-2 : goal.returns-else-is_word-2
returns-else-is_word-2 c = grind (arith, common_steps)
