use Rattle.std.proofs.Common.{arith}
use Rattle.std.proofs.lemmas.Grind.{common_steps}
use Rattle.notation.proofs.items.reason.Goals as goal

pub returns-in-Memory : goal.returns-in-Memory
returns-in-Memory c = grind (arith, common_steps)

pub returns-in-TooDeep : goal.returns-in-TooDeep
returns-in-TooDeep c = grind (arith, common_steps)

pub returns-in-TooManyPlaces : goal.returns-in-TooManyPlaces
returns-in-TooManyPlaces c = grind (arith, common_steps)

pub returns-in-BadNumber : goal.returns-in-BadNumber
returns-in-BadNumber c = grind (arith, common_steps)

pub returns-in-RepeatedKey : goal.returns-in-RepeatedKey
returns-in-RepeatedKey c = grind (arith, common_steps)

pub returns-in-BadClass : goal.returns-in-BadClass
returns-in-BadClass c = grind (arith, common_steps)

pub returns-in-IntegerText : goal.returns-in-IntegerText
returns-in-IntegerText c = grind (arith, common_steps)
