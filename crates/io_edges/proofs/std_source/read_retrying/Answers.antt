use Rattle.std.proofs.Common.{arith}
use Rattle.std.proofs.lemmas.Grind.{common_steps}
use Rattle.io_edges.proofs.std_source.read_retrying.Goals as goal

pub returns-in-Ok-clause-bound : goal.returns-in-Ok-clause-bound
returns-in-Ok-clause-bound g c = grind (arith, common_steps)

pub returns-in-Ok-clause-given : goal.returns-in-Ok-clause-given
returns-in-Ok-clause-given g c = grind (arith, common_steps)

pub returns-in-Ok-clause-end : goal.returns-in-Ok-clause-end
returns-in-Ok-clause-end g c = grind (arith, common_steps)

pub returns-clause-given : goal.returns-clause-given
returns-clause-given g c = grind (arith, common_steps)

pub returns-in-Err-2-clause-given : goal.returns-in-Err-2-clause-given
returns-in-Err-2-clause-given g c = grind (arith, common_steps)

pub tries-preserved : goal.tries-preserved
tries-preserved g c = grind (arith, common_steps)
