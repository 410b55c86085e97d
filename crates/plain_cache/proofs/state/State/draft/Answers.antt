use Rattle.std.proofs.Common.{arith}
use Rattle.std.proofs.lemmas.Grind.{common_steps}
use Rattle.plain_cache.proofs.state.State.draft.Goals as goal

pub returns-then-from-size-clause-refused : goal.returns-then-from-size-clause-refused
returns-then-from-size-clause-refused c = grind (arith, common_steps)

pub returns-then-from-size-clause-taken : goal.returns-then-from-size-clause-taken
returns-then-from-size-clause-taken c = grind (arith, common_steps)

pub returns-then-is_live-clause-refused : goal.returns-then-is_live-clause-refused
returns-then-is_live-clause-refused c = grind (arith, common_steps)

pub returns-then-is_live-clause-taken : goal.returns-then-is_live-clause-taken
returns-then-is_live-clause-taken c = grind (arith, common_steps)

pub returns-clause-refused : goal.returns-clause-refused
returns-clause-refused c = grind (arith, common_steps)

pub returns-clause-taken : goal.returns-clause-taken
returns-clause-taken c = grind (arith, common_steps)
