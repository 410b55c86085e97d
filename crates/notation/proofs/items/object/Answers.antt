use Rattle.std.proofs.Common.{arith}
use Rattle.std.proofs.lemmas.Grind.{common_steps}
use Rattle.std.proofs.lemmas.Result.{err_from_is_err_and}
use Rattle.notation.specs.Reading.{object_at}
use Rattle.notation.proofs.items.object.Goals as goal

pub returns-in_err-class-clause-step : goal.returns-in_err-class-clause-step
returns-in_err-class-clause-step c = rw (err_from_is_err_and c.from_residual.result c.from_residual.ensures.1).1 tt

pub returns-in_err-class-clause-less : goal.returns-in_err-class-clause-less
returns-in_err-class-clause-less c = rw (err_from_is_err_and c.from_residual.result c.from_residual.ensures.1).1 tt

pub returns-in_err-class-2-clause-step : goal.returns-in_err-class-2-clause-step
returns-in_err-class-2-clause-step c = rw (err_from_is_err_and c.from_residual-in_err-class-2.result c.from_residual-in_err-class-2.ensures.1).1 tt

pub returns-in_err-class-2-clause-less : goal.returns-in_err-class-2-clause-less
returns-in_err-class-2-clause-less c = rw (err_from_is_err_and c.from_residual-in_err-class-2.result c.from_residual-in_err-class-2.ensures.1).1 tt

pub returns-in_err-put-clause-step : goal.returns-in_err-put-clause-step
returns-in_err-put-clause-step c = rw (err_from_is_err_and c.from_residual-in_err-put.result c.from_residual-in_err-put.ensures.1).1 tt

pub returns-in_err-put-clause-less : goal.returns-in_err-put-clause-less
returns-in_err-put-clause-less c = rw (err_from_is_err_and c.from_residual-in_err-put.result c.from_residual-in_err-put.ensures.1).1 tt

pub returns-in_err-n-clause-step : goal.returns-in_err-n-clause-step
returns-in_err-n-clause-step c = rw (err_from_is_err_and c.from_residual-in_err-n.result c.from_residual-in_err-n.ensures.1).1 tt

pub returns-in_err-n-clause-less : goal.returns-in_err-n-clause-less
returns-in_err-n-clause-less c = rw (err_from_is_err_and c.from_residual-in_err-n.result c.from_residual-in_err-n.ensures.1).1 tt

pub returns-clause-step : goal.returns-clause-step
returns-clause-step c = grind (arith, common_steps)

pub returns-clause-less : goal.returns-clause-less
returns-clause-less c = grind (arith, common_steps)

pub returns-in_err-class-clause-read : goal.returns-in_err-class-clause-read
unfolding object_at
returns-in_err-class-clause-read c = grind (arith, common_steps)

pub returns-in_err-class-2-clause-read : goal.returns-in_err-class-2-clause-read
unfolding object_at
returns-in_err-class-2-clause-read c = grind (arith, common_steps)

pub returns-in_err-put-clause-read : goal.returns-in_err-put-clause-read
unfolding object_at
returns-in_err-put-clause-read c = grind (arith, common_steps)

pub returns-in_err-n-clause-read : goal.returns-in_err-n-clause-read
unfolding object_at
returns-in_err-n-clause-read c = grind (arith, common_steps)

pub returns-clause-read : goal.returns-clause-read
unfolding object_at
returns-clause-read c = grind (arith, common_steps)
