use Rattle.std.proofs.Common.{arith}
use Rattle.std.proofs.lemmas.Grind.{common_steps}
use Rattle.plain_cache.proofs.plain.Plain.fetch_copy.Goals as goal

pub returns-in_err-try_copy-in-Some-clause-err : goal.returns-in_err-try_copy-in-Some-clause-err
returns-in_err-try_copy-in-Some-clause-err c = grind (arith, common_steps)

pub returns-clause-reply : goal.returns-clause-reply
returns-clause-reply c = grind (arith, common_steps)

pub returns-clause-after : goal.returns-clause-after
returns-clause-after c = grind (arith, common_steps)

pub returns-clause-err : goal.returns-clause-err
returns-clause-err c = grind (arith, common_steps)
