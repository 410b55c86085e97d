use Rattle.std.proofs.lemmas.Result.{err_from_is_err_and}
use Rattle.script_read.proofs.TableRows.{moment_is, fails, goes_on}
use Rattle.script_read.proofs.lines.moment.Goals as goal

pub returns-in_err-t-clause-read : goal.returns-in_err-t-clause-read
returns-in_err-t-clause-read c = λ last.
    let p = err_from_is_err_and c.from_residual.result c.from_residual.ensures.1 in
    rw (p.1, p.2) (fails c.in_err-t.field-0.0 _ _ _ (moment_is c.args.begins last c.args.bytes.now) c.in_err-t.ensures.read)

pub returns-in_err-rest-clause-read : goal.returns-in_err-rest-clause-read
returns-in_err-rest-clause-read c = λ last.
    let p = err_from_is_err_and c.from_residual-in_err-rest.result c.from_residual-in_err-rest.ensures.1 in
    rw (p.1, p.2) (fails c.in_err-rest.field-0.0 _ _ _ (goes_on _ _ _ _ (moment_is c.args.begins last c.args.bytes.now) c.in_ok-t.ensures.read) c.in_err-rest.ensures.read)

pub returns-clause-read : goal.returns-clause-read
returns-clause-read c = λ last. rw c.timing.ensures
    (goes_on _ _ _ _ (goes_on _ _ _ _ (moment_is c.args.begins last c.args.bytes.now) c.in_ok-t.ensures.read) c.in_ok-rest.ensures.read)
