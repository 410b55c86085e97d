use Rattle.std.proofs.Common.{[], refl, arith}
use Rattle.std.proofs.lemmas.Grind.{common_steps}
use Rattle.std.proofs.lemmas.Result.{err_from_is_err_and}
use Rattle.script_read.specs.declared.call.Call.TheVariants.{WalkDelete}
use Rattle.script_read.proofs.ReadCalls.{call_goes}
use Rattle.script_read.proofs.TableRows.{walk_delete_is, fails, goes_on}
use Rattle.script_read.proofs.iterators.walk_delete.Goals as goal

pub returns-in_err-search-clause-read : goal.returns-in_err-search-clause-read
returns-in_err-search-clause-read c = λ last.
    let p = err_from_is_err_and c.from_residual.result c.from_residual.ensures.1 in
    rw (p.1, p.2) (fails c.in_err-search.field-0.0 _ _ _ (walk_delete_is last c.args.bytes.now) c.in_err-search.ensures.read)

pub returns-in_err-size-clause-read : goal.returns-in_err-size-clause-read
returns-in_err-size-clause-read c = λ last.
    let p = err_from_is_err_and c.from_residual-in_err-size.result c.from_residual-in_err-size.ensures.1 in
    rw (p.1, p.2) (fails c.in_err-size.field-0.0 _ _ _ (goes_on _ _ _ _ (walk_delete_is last c.args.bytes.now) c.in_ok-search.ensures.read) c.in_err-size.ensures.read)

pub returns-clause-read : goal.returns-clause-read
returns-clause-read c = λ last.
    call_goes _ c.bare.result (WalkDelete c.in_ok-search.search c.in_ok-size.size) _ c.in_ok-size.rest.now _
    (goes_on _ _ _ _ (goes_on _ _ _ _ (walk_delete_is last c.args.bytes.now) c.in_ok-search.ensures.read) c.in_ok-size.ensures.read) (c.bare.ensures.read []) refl

pub returns-clause-fewer : goal.returns-clause-fewer
returns-clause-fewer c = grind (arith, common_steps)
