use Rattle.std.proofs.Common.{arith}
use Rattle.std.proofs.lemmas.Grind.{common_steps}
use Rattle.std.proofs.lemmas.Result.{err_from_is_err_and}
use Rattle.notation.proofs.pieces.put_object_head.Goals as goal

pub returns-clause-err : goal.returns-clause-err
returns-clause-err c = grind (arith, common_steps)

pub returns-clause-ok : goal.returns-clause-ok
returns-clause-ok c = grind (arith, common_steps)

pub returns-in_err-push-2-clause-err : goal.returns-in_err-push-2-clause-err
returns-in_err-push-2-clause-err c = grind (arith, common_steps)

pub returns-in_err-push-2-clause-ok : goal.returns-in_err-push-2-clause-ok
returns-in_err-push-2-clause-ok c = rw (err_from_is_err_and c.from_residual-in_err-push-2.result c.from_residual-in_err-push-2.ensures.1).1 tt

pub returns-in_err-push-3-clause-err : goal.returns-in_err-push-3-clause-err
returns-in_err-push-3-clause-err c = grind (arith, common_steps)

pub returns-in_err-push-3-clause-ok : goal.returns-in_err-push-3-clause-ok
returns-in_err-push-3-clause-ok c = rw (err_from_is_err_and c.from_residual-in_err-push-3.result c.from_residual-in_err-push-3.ensures.1).1 tt

pub returns-in_err-push-4-clause-err : goal.returns-in_err-push-4-clause-err
returns-in_err-push-4-clause-err c = grind (arith, common_steps)

pub returns-in_err-push-4-clause-ok : goal.returns-in_err-push-4-clause-ok
returns-in_err-push-4-clause-ok c = rw (err_from_is_err_and c.from_residual-in_err-push-4.result c.from_residual-in_err-push-4.ensures.1).1 tt

pub returns-in_err-push-5-clause-err : goal.returns-in_err-push-5-clause-err
returns-in_err-push-5-clause-err c = grind (arith, common_steps)

pub returns-in_err-push-5-clause-ok : goal.returns-in_err-push-5-clause-ok
returns-in_err-push-5-clause-ok c = rw (err_from_is_err_and c.from_residual-in_err-push-5.result c.from_residual-in_err-push-5.ensures.1).1 tt

pub returns-in_err-push-6-clause-err : goal.returns-in_err-push-6-clause-err
returns-in_err-push-6-clause-err c = grind (arith, common_steps)

pub returns-in_err-push-6-clause-ok : goal.returns-in_err-push-6-clause-ok
returns-in_err-push-6-clause-ok c = rw (err_from_is_err_and c.from_residual-in_err-push-6.result c.from_residual-in_err-push-6.ensures.1).1 tt

pub returns-in_err-push-clause-err : goal.returns-in_err-push-clause-err
returns-in_err-push-clause-err c = grind (arith, common_steps)

pub returns-in_err-push-clause-ok : goal.returns-in_err-push-clause-ok
returns-in_err-push-clause-ok c = rw (err_from_is_err_and c.from_residual.result c.from_residual.ensures.1).1 tt
