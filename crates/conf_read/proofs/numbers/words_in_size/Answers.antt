use Rattle.std.proofs.Common.{arith}
use Rattle.std.proofs.lemmas.Grind.{common_steps}
use Rattle.conf_read.proofs.numbers.words_in_size.Goals as goal

pub returns-in_err-bytes-clause-is : goal.returns-in_err-bytes-clause-is
returns-in_err-bytes-clause-is c = grind (arith, common_steps)

pub returns-in_err-bytes-clause-even : goal.returns-in_err-bytes-clause-even
returns-in_err-bytes-clause-even c = grind (arith, common_steps)

pub returns-in_err-bytes-clause-least : goal.returns-in_err-bytes-clause-least
returns-in_err-bytes-clause-least c = grind (arith, common_steps)

pub returns-in_err-bytes-clause-most : goal.returns-in_err-bytes-clause-most
returns-in_err-bytes-clause-most c = grind (arith, common_steps)

pub returns-then-bytes-le-MOST_BYTES-clause-is : goal.returns-then-bytes-le-MOST_BYTES-clause-is
returns-then-bytes-le-MOST_BYTES-clause-is c = grind (arith, common_steps)

pub returns-then-bytes-le-MOST_BYTES-clause-even : goal.returns-then-bytes-le-MOST_BYTES-clause-even
returns-then-bytes-le-MOST_BYTES-clause-even c = grind (arith, common_steps)

pub returns-then-bytes-le-MOST_BYTES-clause-least : goal.returns-then-bytes-le-MOST_BYTES-clause-least
returns-then-bytes-le-MOST_BYTES-clause-least c = grind (arith, common_steps)

pub returns-then-bytes-le-MOST_BYTES-clause-most : goal.returns-then-bytes-le-MOST_BYTES-clause-most
returns-then-bytes-le-MOST_BYTES-clause-most c = grind (arith, common_steps)

pub returns-else-bytes-eq0-clause-is : goal.returns-else-bytes-eq0-clause-is
returns-else-bytes-eq0-clause-is c = grind (arith, common_steps)

pub returns-else-bytes-eq0-clause-even : goal.returns-else-bytes-eq0-clause-even
returns-else-bytes-eq0-clause-even c = grind (arith, common_steps)

pub returns-else-bytes-eq0-clause-least : goal.returns-else-bytes-eq0-clause-least
returns-else-bytes-eq0-clause-least c = grind (arith, common_steps)

pub returns-else-bytes-eq0-clause-most : goal.returns-else-bytes-eq0-clause-most
returns-else-bytes-eq0-clause-most c = grind (arith, common_steps)
