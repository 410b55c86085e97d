use Rattle.std.proofs.Common.{arith}
use Rattle.std.proofs.lemmas.Grind.{common_steps}
use Rattle.io_edges.proofs.std_source.StdSourceSource.read.Goals as goal

pub returns-in-Some-eq0-clause-end : goal.returns-in-Some-eq0-clause-end
returns-in-Some-eq0-clause-end g c = grind (arith, common_steps)

pub returns-in-Some-eq0-clause-given : goal.returns-in-Some-eq0-clause-given
returns-in-Some-eq0-clause-given g c = grind (arith, common_steps)

pub returns-in-Some-clause-took : goal.returns-in-Some-clause-took
returns-in-Some-clause-took g c = grind (arith, common_steps)

pub returns-in-Some-clause-given : goal.returns-in-Some-clause-given
returns-in-Some-clause-given g c = grind (arith, common_steps)

pub returns-in-None-clause-faults : goal.returns-in-None-clause-faults
returns-in-None-clause-faults g c = grind (arith, common_steps)

pub returns-in-None-clause-given : goal.returns-in-None-clause-given
returns-in-None-clause-given g c = grind (arith, common_steps)

pub returns-in-None-clause-end : goal.returns-in-None-clause-end
returns-in-None-clause-end g c = grind (arith, common_steps)

pub returns-in-None-clause-failures : goal.returns-in-None-clause-failures
returns-in-None-clause-failures g c = grind (arith, common_steps)
