use Rattle.std.proofs.Common.{arith}
use Rattle.std.proofs.lemmas.Grind.{common_steps}
use Rattle.std.proofs.lemmas.Result.{err_from_is_err_and}
use Rattle.notation.proofs.pieces.put_start.Goals as goal

pub returns-in_err-push-in-Null-clause-ok : goal.returns-in_err-push-in-Null-clause-ok
returns-in_err-push-in-Null-clause-ok c = rw (err_from_is_err_and c.from_residual.result c.from_residual.ensures.1).1 tt

pub returns-in_err-push-in-Null-clause-err : goal.returns-in_err-push-in-Null-clause-err
returns-in_err-push-in-Null-clause-err c = grind (arith, common_steps)

pub returns-in_err-push-in-Bool-true-clause-ok : goal.returns-in_err-push-in-Bool-true-clause-ok
returns-in_err-push-in-Bool-true-clause-ok c = rw (err_from_is_err_and c.from_residual-in_err-push-in-Bool-true.result c.from_residual-in_err-push-in-Bool-true.ensures.1).1 tt

pub returns-in_err-push-in-Bool-true-clause-err : goal.returns-in_err-push-in-Bool-true-clause-err
returns-in_err-push-in-Bool-true-clause-err c = grind (arith, common_steps)

pub returns-in_err-push-in-Bool-false-clause-ok : goal.returns-in_err-push-in-Bool-false-clause-ok
returns-in_err-push-in-Bool-false-clause-ok c = rw (err_from_is_err_and c.from_residual-in_err-push-in-Bool-false.result c.from_residual-in_err-push-in-Bool-false.ensures.1).1 tt

pub returns-in_err-put_integer-in-Int-clause-ok : goal.returns-in_err-put_integer-in-Int-clause-ok
returns-in_err-put_integer-in-Int-clause-ok c = rw (err_from_is_err_and c.from_residual-in_err-put_integer-in-Int.result c.from_residual-in_err-put_integer-in-Int.ensures.1).1 tt

pub returns-in_err-put_string-in-Str-clause-ok : goal.returns-in_err-put_string-in-Str-clause-ok
returns-in_err-put_string-in-Str-clause-ok c = rw (err_from_is_err_and c.from_residual-in_err-put_string-in-Str.result c.from_residual-in_err-put_string-in-Str.ensures.1).1 tt

pub returns-in_err-put_string-in-Str-clause-err : goal.returns-in_err-put_string-in-Str-clause-err
returns-in_err-put_string-in-Str-clause-err c = grind (arith, common_steps)

pub returns-in-Array-clause-ok : goal.returns-in-Array-clause-ok
returns-in-Array-clause-ok c = grind (arith, common_steps)

pub returns-in-Array-clause-err : goal.returns-in-Array-clause-err
returns-in-Array-clause-err c = tt

pub returns-in-Object-clause-ok : goal.returns-in-Object-clause-ok
returns-in-Object-clause-ok c = grind (arith, common_steps)

pub returns-in-Object-clause-err : goal.returns-in-Object-clause-err
returns-in-Object-clause-err c = tt

pub returns-in_err-put_number-in-Same-clause-ok : goal.returns-in_err-put_number-in-Same-clause-ok
returns-in_err-put_number-in-Same-clause-ok c = rw (err_from_is_err_and c.from_residual-in_err-put_number-in-Same.result c.from_residual-in_err-put_number-in-Same.ensures.1).1 tt

pub returns-in_ok-push-in-Null-clause-ok : goal.returns-in_ok-push-in-Null-clause-ok
returns-in_ok-push-in-Null-clause-ok c = grind (arith, common_steps)

pub returns-in_ok-push-in-Null-clause-err : goal.returns-in_ok-push-in-Null-clause-err
returns-in_ok-push-in-Null-clause-err c = tt

pub returns-in_ok-push-in-Bool-true-clause-ok : goal.returns-in_ok-push-in-Bool-true-clause-ok
returns-in_ok-push-in-Bool-true-clause-ok c = grind (arith, common_steps)

pub returns-in_ok-push-in-Bool-true-clause-err : goal.returns-in_ok-push-in-Bool-true-clause-err
returns-in_ok-push-in-Bool-true-clause-err c = tt

pub returns-in_ok-push-in-Bool-false-clause-ok : goal.returns-in_ok-push-in-Bool-false-clause-ok
returns-in_ok-push-in-Bool-false-clause-ok c = grind (arith, common_steps)

pub returns-in_ok-push-in-Bool-false-clause-err : goal.returns-in_ok-push-in-Bool-false-clause-err
returns-in_ok-push-in-Bool-false-clause-err c = tt

pub returns-in_ok-put_integer-in-Int-clause-ok : goal.returns-in_ok-put_integer-in-Int-clause-ok
returns-in_ok-put_integer-in-Int-clause-ok c = grind (arith, common_steps)

pub returns-in_ok-put_integer-in-Int-clause-err : goal.returns-in_ok-put_integer-in-Int-clause-err
returns-in_ok-put_integer-in-Int-clause-err c = tt

pub returns-in_ok-put_string-in-Str-clause-ok : goal.returns-in_ok-put_string-in-Str-clause-ok
returns-in_ok-put_string-in-Str-clause-ok c = grind (arith, common_steps)

pub returns-in_ok-put_string-in-Str-clause-err : goal.returns-in_ok-put_string-in-Str-clause-err
returns-in_ok-put_string-in-Str-clause-err c = tt

pub returns-in_ok-put_number-in-Same-clause-ok : goal.returns-in_ok-put_number-in-Same-clause-ok
returns-in_ok-put_number-in-Same-clause-ok c = grind (arith, common_steps)

pub returns-in_ok-put_number-in-Same-clause-err : goal.returns-in_ok-put_number-in-Same-clause-err
returns-in_ok-put_number-in-Same-clause-err c = tt
