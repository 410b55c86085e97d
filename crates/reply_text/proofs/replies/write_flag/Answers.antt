use Rattle.std.proofs.Common.{arith}
use Rattle.std.proofs.lemmas.Grind.{common_steps}
use Rattle.reply_text.proofs.replies.write_flag.Goals as goal

pub returns-in-true : goal.returns-in-true
returns-in-true c = grind (arith, common_steps)

pub returns-in-false : goal.returns-in-false
returns-in-false c = grind (arith, common_steps)
