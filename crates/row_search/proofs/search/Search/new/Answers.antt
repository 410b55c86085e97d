use Rattle.std.proofs.Common.{arith}
use Rattle.std.proofs.lemmas.Grind.{common_steps}
use Rattle.row_search.proofs.search.Search.new.Goals as goal

pub returns-in_err-built-in-Some-clause-made : goal.returns-in_err-built-in-Some-clause-made
returns-in_err-built-in-Some-clause-made c = grind (arith, common_steps)

pub returns-in_err-built-in-Some-clause-bad : goal.returns-in_err-built-in-Some-clause-bad
returns-in_err-built-in-Some-clause-bad c = grind (arith, common_steps)

pub returns-in_err-built-in-Some-clause-big : goal.returns-in_err-built-in-Some-clause-big
returns-in_err-built-in-Some-clause-big c = grind (arith, common_steps)

pub returns-clause-made : goal.returns-clause-made
returns-clause-made c = grind (arith, common_steps)

pub returns-clause-bad : goal.returns-clause-bad
returns-clause-bad c = grind (arith, common_steps)

pub returns-clause-big : goal.returns-clause-big
returns-clause-big c = grind (arith, common_steps)
