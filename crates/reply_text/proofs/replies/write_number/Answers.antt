use Rattle.std.proofs.Common.{arith}
use Rattle.std.proofs.lemmas.Grind.{common_steps}
use Rattle.reply_text.proofs.replies.write_number.Goals as goal

pub returns-in_err-write_integer-in-Some : goal.returns-in_err-write_integer-in-Some
returns-in_err-write_integer-in-Some c = grind (arith, common_steps)

pub returns-in_ok-write_integer-in-Some : goal.returns-in_ok-write_integer-in-Some
returns-in_ok-write_integer-in-Some c = grind (arith, common_steps)

pub returns-in-None : goal.returns-in-None
returns-in-None c = grind (arith, common_steps)
