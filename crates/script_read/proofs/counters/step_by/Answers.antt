use Rattle.std.proofs.Common.{arith}
use Rattle.std.proofs.lemmas.Grind.{common_steps}
use Rattle.std.proofs.lemmas.Int.{ints}
use Rattle.script_read.proofs.counters.step_by.Goals as goal

pub returns-then-down : goal.returns-then-down
returns-then-down c = grind (arith, ints, common_steps)
