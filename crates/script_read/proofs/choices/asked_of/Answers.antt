use Rattle.std.proofs.Common.{arith}
use Rattle.script_read.proofs.Members.{asked_many}
use Rattle.script_read.proofs.choices.asked_of.Goals as goal

pub returns-in-Some : goal.returns-in-Some
returns-in-Some c = grind (arith, asked_many)

pub returns : goal.returns
returns c = grind (arith, asked_many)
