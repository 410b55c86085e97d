use Rattle.std.proofs.Common.{arith}
use Rattle.std.proofs.lemmas.Grind.{common_steps}
use Rattle.reply_text.proofs.replies.write_gave.Goals as goal

pub returns : goal.returns
returns c = grind (arith, common_steps)
