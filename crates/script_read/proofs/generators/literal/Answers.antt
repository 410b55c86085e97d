use Rattle.std.proofs.Common.{arith}
use Rattle.std.proofs.lemmas.Grind.{common_steps}
use Rattle.script_read.specs.Reading.{literal_at}
use Rattle.script_read.proofs.generators.literal.Goals as goal

pub returns-in_err-graph-in-40-clause-read : goal.returns-in_err-graph-in-40-clause-read
unfolding literal_at
returns-in_err-graph-in-40-clause-read c = grind (arith, common_steps)

pub returns-in_err-rest-in-40-clause-read : goal.returns-in_err-rest-in-40-clause-read
unfolding literal_at
returns-in_err-rest-in-40-clause-read c = grind (arith, common_steps)

pub returns-in-empty-clause-read : goal.returns-in-empty-clause-read
unfolding literal_at
returns-in-empty-clause-read c = grind (arith, common_steps)

pub returns-in_ok-rest-in-40-clause-read : goal.returns-in_ok-rest-in-40-clause-read
unfolding literal_at
returns-in_ok-rest-in-40-clause-read c = grind (arith, common_steps)

pub returns-in-len1-up-clause-read : goal.returns-in-len1-up-clause-read
unfolding literal_at
returns-in-len1-up-clause-read c = grind (arith, common_steps)
