use Rattle.std.proofs.Common.{arith}
use Rattle.std.proofs.lemmas.Grind.{common_steps}
use Rattle.notation.proofs.tokens.quoted.Goals as goal

pub returns-then-bytes-len-eq34-clause-read : goal.returns-then-bytes-len-eq34-clause-read
returns-then-bytes-len-eq34-clause-read c = grind (arith, common_steps)

pub returns-then-bytes-len-eq34-clause-length : goal.returns-then-bytes-len-eq34-clause-length
returns-then-bytes-len-eq34-clause-length c = grind (arith, common_steps)

pub returns-then-bytes-len-eq34-clause-less : goal.returns-then-bytes-len-eq34-clause-less
returns-then-bytes-len-eq34-clause-less c = grind (arith, common_steps)

pub returns-else-len-bytes-clause-read : goal.returns-else-len-bytes-clause-read
returns-else-len-bytes-clause-read c = grind (arith, common_steps)

pub returns-else-len-bytes-clause-length : goal.returns-else-len-bytes-clause-length
returns-else-len-bytes-clause-length c = grind (arith, common_steps)

pub returns-else-len-bytes-clause-less : goal.returns-else-len-bytes-clause-less
returns-else-len-bytes-clause-less c = grind (arith, common_steps)
