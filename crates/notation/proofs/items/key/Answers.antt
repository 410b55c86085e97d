use Rattle.std.proofs.Common.{arith}
use Rattle.std.proofs.lemmas.Grind.{common_steps}
use Rattle.std.proofs.lemmas.Result.{err_from_is_err_and}
use Rattle.notation.specs.Reading.{key_at}
use Rattle.notation.proofs.items.key.Goals as goal

pub returns-in_ok-put_key-in-len1-up-clause-waits : goal.returns-in_ok-put_key-in-len1-up-clause-waits
returns-in_ok-put_key-in-len1-up-clause-waits c = grind (arith, common_steps)

pub returns-in-empty-clause-less : goal.returns-in-empty-clause-less
returns-in-empty-clause-less c = grind (arith, common_steps)

pub returns-in-empty-clause-read : goal.returns-in-empty-clause-read
unfolding key_at
returns-in-empty-clause-read c = grind (arith, common_steps)

pub returns-in-empty-clause-waits : goal.returns-in-empty-clause-waits
returns-in-empty-clause-waits c = grind (arith, common_steps)

pub returns-in_err-key-in-len1-up-clause-less : goal.returns-in_err-key-in-len1-up-clause-less
returns-in_err-key-in-len1-up-clause-less c = rw (err_from_is_err_and c.from_residual.result c.from_residual.ensures.1).1 tt

pub returns-in_err-key-in-len1-up-clause-read : goal.returns-in_err-key-in-len1-up-clause-read
unfolding key_at
returns-in_err-key-in-len1-up-clause-read c = grind (arith, common_steps)

pub returns-in_err-key-in-len1-up-clause-waits : goal.returns-in_err-key-in-len1-up-clause-waits
returns-in_err-key-in-len1-up-clause-waits c = rw (err_from_is_err_and c.from_residual.result c.from_residual.ensures.1).1 tt

pub returns-in_err-put_key-in-len1-up-clause-less : goal.returns-in_err-put_key-in-len1-up-clause-less
returns-in_err-put_key-in-len1-up-clause-less c = rw (err_from_is_err_and c.from_residual-in_err-put_key-in-len1-up.result c.from_residual-in_err-put_key-in-len1-up.ensures.1).1 tt

pub returns-in_err-put_key-in-len1-up-clause-read : goal.returns-in_err-put_key-in-len1-up-clause-read
unfolding key_at
returns-in_err-put_key-in-len1-up-clause-read c = grind (arith, common_steps)

pub returns-in_err-put_key-in-len1-up-clause-waits : goal.returns-in_err-put_key-in-len1-up-clause-waits
returns-in_err-put_key-in-len1-up-clause-waits c = rw (err_from_is_err_and c.from_residual-in_err-put_key-in-len1-up.result c.from_residual-in_err-put_key-in-len1-up.ensures.1).1 tt

pub returns-in_ok-put_key-in-len1-up-clause-less : goal.returns-in_ok-put_key-in-len1-up-clause-less
returns-in_ok-put_key-in-len1-up-clause-less c = grind (arith, common_steps)

pub returns-in_ok-put_key-in-len1-up-clause-read : goal.returns-in_ok-put_key-in-len1-up-clause-read
unfolding key_at
returns-in_ok-put_key-in-len1-up-clause-read c = grind (arith, common_steps)
