use Rattle.std.proofs.Common.{[], ap, sym}
use Rattle.std.proofs.lemmas.Result.{err_from_is_err_and}
use Rattle.script_read.specs.declared.call.Call.TheVariants.{Pool}
use Rattle.script_read.proofs.ReadCalls.{call_goes}
use Rattle.script_read.proofs.PoolTableRows.{pool_has_is}
use Rattle.script_read.proofs.TableRows.{fails, goes_on}
use Rattle.script_read.proofs.pools.pool_has.Goals as goal

pub returns-in_err-pool-clause-read : goal.returns-in_err-pool-clause-read
returns-in_err-pool-clause-read c = λ last.
    let p = err_from_is_err_and c.from_residual.result c.from_residual.ensures.1 in
    rw (p.1, p.2) (fails c.in_err-pool.field-0.0 _ _ _ (pool_has_is last c.args.bytes.now) c.in_err-pool.ensures.read)

pub returns-in_err-key-clause-read : goal.returns-in_err-key-clause-read
returns-in_err-key-clause-read c = λ last.
    let p = err_from_is_err_and c.from_residual-in_err-key.result c.from_residual-in_err-key.ensures.1 in
    rw (p.1, p.2) (fails c.in_err-key.field-0.0 _ _ _ (goes_on _ _ _ _ (pool_has_is last c.args.bytes.now) c.in_ok-pool.ensures.read) c.in_err-key.ensures.read)

pub returns-clause-read : goal.returns-clause-read
returns-clause-read c = λ last.
    call_goes _ c.bare.result _ _ _ _ (goes_on _ _ _ _ (goes_on _ _ _ _ (pool_has_is last c.args.bytes.now) c.in_ok-pool.ensures.read) c.in_ok-key.ensures.read) (c.bare.ensures.read []) (ap Pool (sym c.in_ok-boxed.ensures))
