use Rattle.std.proofs.Common.{arith, inr}
use Rattle.std.proofs.lemmas.Grind.{common_steps}
use Rattle.php_graph.proofs.NumberLemmas.{large_so_far}
use Rattle.php_graph.proofs.numbers.small_number.Goals as goal

pub returns-then-number-gt-LARGE : goal.returns-then-number-gt-LARGE
returns-then-number-gt-LARGE c = inr (large_so_far c.args.digits.now c.loop-digit.digit-index c.loop-digit.number (omega arith) (omega arith) c.loop-digit.invariant.0)

pub overflow_mul-number : goal.overflow_mul-number
overflow_mul-number c = grind (arith, common_steps)

pub overflow_sub-digit : goal.overflow_sub-digit
overflow_sub-digit c = grind (arith, common_steps)

pub overflow_add-number : goal.overflow_add-number
overflow_add-number c = grind (arith, common_steps)

pub loop-digit-preserved : goal.loop-digit-preserved
loop-digit-preserved c = grind (arith, common_steps)

pub returns : goal.returns
returns c = grind (arith, common_steps)
