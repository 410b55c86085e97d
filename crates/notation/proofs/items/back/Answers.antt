use Rattle.std.proofs.Common.{arith}
use Rattle.std.proofs.lemmas.Grind.{common_steps}
use Rattle.std.proofs.lemmas.Result.{err_from_is_err_and}
use Rattle.notation.specs.Reading.{back_at}
use Rattle.notation.proofs.items.back.Goals as goal

pub returns-in_err-number-clause-step : goal.returns-in_err-number-clause-step
returns-in_err-number-clause-step c = rw (err_from_is_err_and c.from_residual.result c.from_residual.ensures.1).1 tt

pub returns-in_err-number-clause-less : goal.returns-in_err-number-clause-less
returns-in_err-number-clause-less c = rw (err_from_is_err_and c.from_residual.result c.from_residual.ensures.1).1 tt

pub returns-in_err-k-clause-step : goal.returns-in_err-k-clause-step
returns-in_err-k-clause-step c = rw (err_from_is_err_and c.from_residual-in_err-k.result c.from_residual-in_err-k.ensures.1).1 tt

pub returns-in_err-k-clause-less : goal.returns-in_err-k-clause-less
returns-in_err-k-clause-less c = rw (err_from_is_err_and c.from_residual-in_err-k.result c.from_residual-in_err-k.ensures.1).1 tt

pub returns-in_err-rest-clause-step : goal.returns-in_err-rest-clause-step
returns-in_err-rest-clause-step c = rw (err_from_is_err_and c.from_residual-in_err-rest.result c.from_residual-in_err-rest.ensures.1).1 tt

pub returns-in_err-rest-clause-less : goal.returns-in_err-rest-clause-less
returns-in_err-rest-clause-less c = rw (err_from_is_err_and c.from_residual-in_err-rest.result c.from_residual-in_err-rest.ensures.1).1 tt

pub returns-in_err-put-clause-step : goal.returns-in_err-put-clause-step
returns-in_err-put-clause-step c = rw (err_from_is_err_and c.from_residual-in_err-put.result c.from_residual-in_err-put.ensures.1).1 tt

pub returns-in_err-put-clause-less : goal.returns-in_err-put-clause-less
returns-in_err-put-clause-less c = rw (err_from_is_err_and c.from_residual-in_err-put.result c.from_residual-in_err-put.ensures.1).1 tt

pub returns-clause-step : goal.returns-clause-step
returns-clause-step c = grind (arith, common_steps)

pub returns-clause-less : goal.returns-clause-less
returns-clause-less c = grind (arith, common_steps)

pub returns-in_err-number-clause-read : goal.returns-in_err-number-clause-read
unfolding back_at
returns-in_err-number-clause-read c = grind (arith, common_steps)

pub returns-in_err-k-clause-read : goal.returns-in_err-k-clause-read
unfolding back_at
returns-in_err-k-clause-read c = grind (arith, common_steps)

pub returns-in_err-rest-clause-read : goal.returns-in_err-rest-clause-read
unfolding back_at
returns-in_err-rest-clause-read c = grind (arith, common_steps)

pub returns-in_err-put-clause-read : goal.returns-in_err-put-clause-read
unfolding back_at
returns-in_err-put-clause-read c = grind (arith, common_steps)

pub returns-clause-read : goal.returns-clause-read
unfolding back_at
returns-clause-read c = grind (arith, common_steps)
