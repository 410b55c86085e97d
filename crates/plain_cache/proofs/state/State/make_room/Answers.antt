use Rattle.std.proofs.Common.{arith}
use Rattle.std.proofs.lemmas.Grind.{common_steps}
use Rattle.plain_cache.proofs.state.State.make_room.Goals as goal

pub returns-then-is_some-clause-cache : goal.returns-then-is_some-clause-cache
returns-then-is_some-clause-cache c = grind (arith, common_steps)

pub gap-place-requires-2 : goal.gap-place-requires-2
gap-place-requires-2 c = grind (arith, common_steps)

pub returns-then-is_some-2-clause-cache : goal.returns-then-is_some-2-clause-cache
returns-then-is_some-2-clause-cache c = grind (arith, common_steps)

pub returns-then-is_some-2-clause-less : goal.returns-then-is_some-2-clause-less
returns-then-is_some-2-clause-less c = grind (arith, common_steps)

pub gap-requires : goal.gap-requires
gap-requires c = grind (arith, common_steps)

pub returns-clause-cache : goal.returns-clause-cache
returns-clause-cache c = grind (arith, common_steps)

pub returns-clause-less : goal.returns-clause-less
returns-clause-less c = grind (arith, common_steps)

pub returns-clause-capacity : goal.returns-clause-capacity
returns-clause-capacity c = grind (arith, common_steps)

pub returns-then-is_some-2-clause-capacity : goal.returns-then-is_some-2-clause-capacity
returns-then-is_some-2-clause-capacity c = grind (arith, common_steps)
