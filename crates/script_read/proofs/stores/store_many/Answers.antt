use Rattle.std.proofs.Common.{[], arith}
use Rattle.std.proofs.lemmas.Grind.{common_steps}
use Rattle.std.proofs.lemmas.Result.{err_from_is_err_and}
use Rattle.script_read.proofs.TableRows.{store_many_is, fails, goes_on, moved}
use Rattle.script_read.proofs.stores.store_many.Goals as goal

pub returns-in_err-rest-clause-read : goal.returns-in_err-rest-clause-read
returns-in_err-rest-clause-read c = λ last.
    let p = err_from_is_err_and c.from_residual.result c.from_residual.ensures.1 in
    rw (p.1, p.2) (fails c.in_err-rest.field-0.0 _ _ _ (store_many_is c.args.exclusive c.args.pairs last c.args.bytes.now) c.in_err-rest.ensures.read)

pub returns-in_err-ttl-clause-read : goal.returns-in_err-ttl-clause-read
returns-in_err-ttl-clause-read c = λ last.
    let p = err_from_is_err_and c.from_residual-in_err-ttl.result c.from_residual-in_err-ttl.ensures.1 in
    rw (p.1, p.2) (fails c.in_err-ttl.field-0.0 _ _ _ (goes_on _ _ _ _ (store_many_is c.args.exclusive c.args.pairs last c.args.bytes.now) c.in_ok-rest.ensures.read) c.in_err-ttl.ensures.read)

pub returns-clause-read : goal.returns-clause-read
returns-clause-read c = λ last.
    moved _ c.bare.result _ _ (goes_on _ _ _ _ (goes_on _ _ _ _ (store_many_is c.args.exclusive c.args.pairs last c.args.bytes.now) c.in_ok-rest.ensures.read) c.in_ok-ttl.ensures.read) (c.bare.ensures.read [])

pub returns-clause-fewer : goal.returns-clause-fewer
returns-clause-fewer c = grind (arith, common_steps)
