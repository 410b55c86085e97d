use Rattle.std.proofs.Common.{arith}
use Rattle.std.proofs.lemmas.Grind.{common_steps}
use Rattle.plain_cache.proofs.state.State.count.Goals as goal

pub returns-in_err-key-clause-reply : goal.returns-in_err-key-clause-reply
returns-in_err-key-clause-reply c = grind (arith, common_steps)

pub returns-in_err-key-clause-after : goal.returns-in_err-key-clause-after
returns-in_err-key-clause-after c = grind (arith, common_steps)

pub returns-in_err-key-clause-err : goal.returns-in_err-key-clause-err
returns-in_err-key-clause-err c = grind (arith, common_steps)

pub returns-in_err-key-clause-valid : goal.returns-in_err-key-clause-valid
returns-in_err-key-clause-valid c = grind (arith, common_steps)

pub returns-in_err-stored-clause-reply : goal.returns-in_err-stored-clause-reply
returns-in_err-stored-clause-reply c = grind (arith, common_steps)

pub returns-in_err-stored-clause-after : goal.returns-in_err-stored-clause-after
returns-in_err-stored-clause-after c = grind (arith, common_steps)

pub returns-in_err-stored-clause-err : goal.returns-in_err-stored-clause-err
returns-in_err-stored-clause-err c = grind (arith, common_steps)

pub returns-in_err-stored-clause-valid : goal.returns-in_err-stored-clause-valid
returns-in_err-stored-clause-valid c = grind (arith, common_steps)

pub returns-then-stored-clause-reply : goal.returns-then-stored-clause-reply
returns-then-stored-clause-reply c = grind (arith, common_steps)

pub returns-then-stored-clause-after : goal.returns-then-stored-clause-after
returns-then-stored-clause-after c = grind (arith, common_steps)

pub returns-then-stored-clause-err : goal.returns-then-stored-clause-err
returns-then-stored-clause-err c = grind (arith, common_steps)

pub returns-then-stored-clause-valid : goal.returns-then-stored-clause-valid
returns-then-stored-clause-valid c = grind (arith, common_steps)

pub returns-else-stored-clause-reply : goal.returns-else-stored-clause-reply
returns-else-stored-clause-reply c = grind (arith, common_steps)

pub returns-else-stored-clause-after : goal.returns-else-stored-clause-after
returns-else-stored-clause-after c = grind (arith, common_steps)

pub returns-else-stored-clause-err : goal.returns-else-stored-clause-err
returns-else-stored-clause-err c = grind (arith, common_steps)

pub returns-else-stored-clause-valid : goal.returns-else-stored-clause-valid
returns-else-stored-clause-valid c = grind (arith, common_steps)

pub returns-in_default-found-clause-reply : goal.returns-in_default-found-clause-reply
returns-in_default-found-clause-reply c = grind (arith, common_steps)

pub returns-in_default-found-clause-after : goal.returns-in_default-found-clause-after
returns-in_default-found-clause-after c = grind (arith, common_steps)

pub returns-in_default-found-clause-err : goal.returns-in_default-found-clause-err
returns-in_default-found-clause-err c = grind (arith, common_steps)

pub returns-in_default-found-clause-valid : goal.returns-in_default-found-clause-valid
returns-in_default-found-clause-valid c = grind (arith, common_steps)

pub returns-clause-reply : goal.returns-clause-reply
returns-clause-reply c = grind (arith, common_steps)

pub returns-clause-after : goal.returns-clause-after
returns-clause-after c = grind (arith, common_steps)

pub returns-clause-err : goal.returns-clause-err
returns-clause-err c = grind (arith, common_steps)

pub returns-clause-valid : goal.returns-clause-valid
returns-clause-valid c = grind (arith, common_steps)
