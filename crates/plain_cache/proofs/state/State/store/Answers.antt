use Rattle.std.proofs.Common.{arith}
use Rattle.std.proofs.lemmas.Grind.{common_steps}
use Rattle.plain_cache.proofs.state.State.store.Goals as goal

pub returns-in-Some-clause-reply : goal.returns-in-Some-clause-reply
returns-in-Some-clause-reply c = grind (arith, common_steps)

pub returns-in-Some-clause-after : goal.returns-in-Some-clause-after
returns-in-Some-clause-after c = grind (arith, common_steps)

pub returns-in-Some-clause-err : goal.returns-in-Some-clause-err
returns-in-Some-clause-err c = grind (arith, common_steps)

pub returns-in-Some-clause-valid : goal.returns-in-Some-clause-valid
returns-in-Some-clause-valid c = grind (arith, common_steps)

pub returns-in-None-clause-reply : goal.returns-in-None-clause-reply
returns-in-None-clause-reply c = grind (arith, common_steps)

pub returns-in-None-clause-after : goal.returns-in-None-clause-after
returns-in-None-clause-after c = grind (arith, common_steps)

pub returns-in-None-clause-err : goal.returns-in-None-clause-err
returns-in-None-clause-err c = grind (arith, common_steps)

pub returns-in-None-clause-valid : goal.returns-in-None-clause-valid
returns-in-None-clause-valid c = grind (arith, common_steps)
