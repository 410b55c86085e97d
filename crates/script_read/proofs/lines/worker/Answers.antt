use Rattle.std.proofs.Common.{arith}
use Rattle.std.proofs.lemmas.Grind.{common_steps}
use Rattle.script_read.proofs.lines.worker.Goals as goal

pub returns-then-begun-lt-MOST_WORKERS-clause-read : goal.returns-then-begun-lt-MOST_WORKERS-clause-read
returns-then-begun-lt-MOST_WORKERS-clause-read c = grind (arith, common_steps)

pub returns-then-begun-lt-MOST_WORKERS-clause-few : goal.returns-then-begun-lt-MOST_WORKERS-clause-few
returns-then-begun-lt-MOST_WORKERS-clause-few c = grind (arith, common_steps)

pub returns-else-begun-lt-MOST_WORKERS-clause-read : goal.returns-else-begun-lt-MOST_WORKERS-clause-read
returns-else-begun-lt-MOST_WORKERS-clause-read c = grind (arith, common_steps)

pub returns-then-begun-lt-MOST_WORKERS-clause-fewer : goal.returns-then-begun-lt-MOST_WORKERS-clause-fewer
returns-then-begun-lt-MOST_WORKERS-clause-fewer c = grind (arith, common_steps)
