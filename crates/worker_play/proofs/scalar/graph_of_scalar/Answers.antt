use Rattle.std.proofs.Common.{arith}
use Rattle.std.proofs.lemmas.Grind.{common_steps}
use Rattle.worker_play.proofs.scalar.graph_of_scalar.Goals as goal

pub returns-in-Null : goal.returns-in-Null
returns-in-Null c = grind (arith, common_steps)

pub returns-in-Bool : goal.returns-in-Bool
returns-in-Bool c = grind (arith, common_steps)

pub returns-in-Int : goal.returns-in-Int
returns-in-Int c = grind (arith, common_steps)
