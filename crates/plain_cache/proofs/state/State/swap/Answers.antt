use Rattle.std.proofs.Common.{arith}
use Rattle.std.proofs.lemmas.Grind.{common_steps}
use Rattle.plain_cache.proofs.state.State.swap.Goals as goal

pub returns-in_default-clause-reply : goal.returns-in_default-clause-reply
returns-in_default-clause-reply c = grind (arith, common_steps)

pub returns-in_default-clause-cache : goal.returns-in_default-clause-cache
returns-in_default-clause-cache c = grind (arith, common_steps)

pub returns-in_default-clause-valid : goal.returns-in_default-clause-valid
returns-in_default-clause-valid c = grind (arith, common_steps)

pub returns-in_default-2-clause-reply : goal.returns-in_default-2-clause-reply
returns-in_default-2-clause-reply c = grind (arith, common_steps)

pub returns-in_default-2-clause-cache : goal.returns-in_default-2-clause-cache
returns-in_default-2-clause-cache c = grind (arith, common_steps)

pub returns-in_default-2-clause-valid : goal.returns-in_default-2-clause-valid
returns-in_default-2-clause-valid c = grind (arith, common_steps)

pub returns-then-n-expect-clause-reply : goal.returns-then-n-expect-clause-reply
returns-then-n-expect-clause-reply c = grind (arith, common_steps)

pub returns-then-n-expect-clause-cache : goal.returns-then-n-expect-clause-cache
returns-then-n-expect-clause-cache c = grind (arith, common_steps)

pub returns-then-n-expect-clause-valid : goal.returns-then-n-expect-clause-valid
returns-then-n-expect-clause-valid c = grind (arith, common_steps)

pub returns-clause-reply : goal.returns-clause-reply
returns-clause-reply c = grind (arith, common_steps)

pub returns-clause-cache : goal.returns-clause-cache
returns-clause-cache c = grind (arith, common_steps)

pub returns-clause-valid : goal.returns-clause-valid
returns-clause-valid c = grind (arith, common_steps)
