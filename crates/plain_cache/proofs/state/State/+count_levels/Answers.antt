use Rattle.std.proofs.Common.{arith}
use Rattle.std.proofs.lemmas.Grind.{common_steps}
use Rattle.plain_cache.proofs.state.State.+count_levels.Goals as goal

pub returns-in-Value-clause-cache : goal.returns-in-Value-clause-cache
returns-in-Value-clause-cache c = grind (arith, common_steps)

pub returns-in-Value-clause-valid : goal.returns-in-Value-clause-valid
returns-in-Value-clause-valid c = grind (arith, common_steps)

pub returns-in-Value-clause-len : goal.returns-in-Value-clause-len
returns-in-Value-clause-len c = grind (arith, common_steps)

pub returns-in-Value-clause-capacity : goal.returns-in-Value-clause-capacity
returns-in-Value-clause-capacity c = grind (arith, common_steps)

pub returns-then-not-found-clause-cache : goal.returns-then-not-found-clause-cache
returns-then-not-found-clause-cache c = grind (arith, common_steps)

pub returns-then-not-found-clause-valid : goal.returns-then-not-found-clause-valid
returns-then-not-found-clause-valid c = grind (arith, common_steps)

pub returns-then-not-found-clause-len : goal.returns-then-not-found-clause-len
returns-then-not-found-clause-len c = grind (arith, common_steps)

pub returns-then-not-found-clause-capacity : goal.returns-then-not-found-clause-capacity
returns-then-not-found-clause-capacity c = grind (arith, common_steps)

pub returns-else-not-found-clause-cache : goal.returns-else-not-found-clause-cache
returns-else-not-found-clause-cache c = grind (arith, common_steps)

pub returns-else-not-found-clause-valid : goal.returns-else-not-found-clause-valid
returns-else-not-found-clause-valid c = grind (arith, common_steps)

pub returns-else-not-found-clause-len : goal.returns-else-not-found-clause-len
returns-else-not-found-clause-len c = grind (arith, common_steps)

pub returns-else-not-found-clause-capacity : goal.returns-else-not-found-clause-capacity
returns-else-not-found-clause-capacity c = grind (arith, common_steps)
