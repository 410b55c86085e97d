use Rattle.std.proofs.Common.{arith}
use Rattle.script_read.proofs.Members.{stored_many}
use Rattle.script_read.proofs.choices.stored_of.Goals as goal

pub returns-in-Some : goal.returns-in-Some
returns-in-Some c = grind (arith, stored_many)

pub returns : goal.returns
returns c = grind (arith, stored_many)
