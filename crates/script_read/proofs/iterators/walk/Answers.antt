use Rattle.std.proofs.Common.{[], arith}
use Rattle.std.proofs.lemmas.Grind.{common_steps}
use Rattle.std.proofs.lemmas.Result.{err_from_is_err_and}
use Rattle.script_read.proofs.TableRows.{walk_is, fails, goes_on, moved}
use Rattle.script_read.proofs.iterators.walk.Goals as goal

pub returns-in_err-search-clause-read : goal.returns-in_err-search-clause-read
returns-in_err-search-clause-read c = λ last.
    let p = err_from_is_err_and c.from_residual.result c.from_residual.ensures.1 in
    rw (p.1, p.2) (fails c.in_err-search.field-0.0 _ _ _ (walk_is last c.args.bytes.now) c.in_err-search.ensures.read)

pub returns-in_err-fields-clause-read : goal.returns-in_err-fields-clause-read
returns-in_err-fields-clause-read c = λ last.
    let p = err_from_is_err_and c.from_residual-in_err-fields.result c.from_residual-in_err-fields.ensures.1 in
    rw (p.1, p.2) (fails c.in_err-fields.field-0.0 _ _ _ (goes_on _ _ _ _ (walk_is last c.args.bytes.now) c.in_ok-search.ensures.read) c.in_err-fields.ensures.read)

pub returns-in_err-size-clause-read : goal.returns-in_err-size-clause-read
returns-in_err-size-clause-read c = λ last.
    let p = err_from_is_err_and c.from_residual-in_err-size.result c.from_residual-in_err-size.ensures.1 in
    rw (p.1, p.2) (fails c.in_err-size.field-0.0 _ _ _ (goes_on _ _ _ _ (goes_on _ _ _ _ (walk_is last c.args.bytes.now) c.in_ok-search.ensures.read) c.in_ok-fields.ensures.read) c.in_err-size.ensures.read)

pub returns-in_err-list-clause-read : goal.returns-in_err-list-clause-read
returns-in_err-list-clause-read c = λ last.
    let p = err_from_is_err_and c.from_residual-in_err-list.result c.from_residual-in_err-list.ensures.1 in
    rw (p.1, p.2) (fails c.in_err-list.field-0.0 _ _ _ (goes_on _ _ _ _ (goes_on _ _ _ _ (goes_on _ _ _ _ (walk_is last c.args.bytes.now) c.in_ok-search.ensures.read) c.in_ok-fields.ensures.read) c.in_ok-size.ensures.read) c.in_err-list.ensures.read)

pub returns-clause-read : goal.returns-clause-read
returns-clause-read c = λ last.
    moved _ c.bare.result _ _ (goes_on _ _ _ _ (goes_on _ _ _ _ (goes_on _ _ _ _ (goes_on _ _ _ _ (walk_is last c.args.bytes.now) c.in_ok-search.ensures.read) c.in_ok-fields.ensures.read) c.in_ok-size.ensures.read) c.in_ok-list.ensures.read) (c.bare.ensures.read [])

pub returns-clause-fewer : goal.returns-clause-fewer
returns-clause-fewer c = grind (arith, common_steps)

pub returns-clause-range : goal.returns-clause-range
returns-clause-range c = grind (arith, common_steps)
