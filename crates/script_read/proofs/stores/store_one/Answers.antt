use Rattle.std.proofs.Common.{[], refl, arith}
use Rattle.std.proofs.lemmas.Grind.{common_steps}
use Rattle.std.proofs.lemmas.Result.{err_from_is_err_and}
use Rattle.script_read.specs.declared.call.Call.TheVariants.{StoreOne}
use Rattle.script_read.proofs.ReadCalls.{call_goes}
use Rattle.script_read.proofs.TableRows.{store_one_is, fails, goes_on}
use Rattle.script_read.proofs.stores.store_one.Goals as goal

pub returns-in_err-value-clause-read : goal.returns-in_err-value-clause-read
returns-in_err-value-clause-read c = λ last.
    let p = err_from_is_err_and c.from_residual.result c.from_residual.ensures.1 in
    rw (p.1, p.2) (fails c.in_err-value.field-0.0 _ _ _ (store_one_is c.args.exclusive c.args.key last c.args.bytes.now) c.in_err-value.ensures.read)

pub returns-in_err-ttl-clause-read : goal.returns-in_err-ttl-clause-read
returns-in_err-ttl-clause-read c = λ last.
    let p = err_from_is_err_and c.from_residual-in_err-ttl.result c.from_residual-in_err-ttl.ensures.1 in
    rw (p.1, p.2) (fails c.in_err-ttl.field-0.0 _ _ _ (goes_on _ _ _ _ (store_one_is c.args.exclusive c.args.key last c.args.bytes.now) c.in_ok-value.ensures.read) c.in_err-ttl.ensures.read)

pub returns-clause-read : goal.returns-clause-read
returns-clause-read c = λ last.
    call_goes _ c.bare.result (StoreOne c.args.key c.in_ok-value.value c.in_ok-ttl.ttl c.args.exclusive) _ c.in_ok-ttl.rest.now _
    (goes_on _ _ _ _ (goes_on _ _ _ _ (store_one_is c.args.exclusive c.args.key last c.args.bytes.now) c.in_ok-value.ensures.read) c.in_ok-ttl.ensures.read) (c.bare.ensures.read []) refl

pub returns-clause-fewer : goal.returns-clause-fewer
returns-clause-fewer c = grind (arith, common_steps)
