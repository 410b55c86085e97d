use Rattle.std.proofs.Common.{[]}
use Rattle.std.proofs.lemmas.Result.{err_from_is_err_and}
use Rattle.script_read.proofs.TableRows.{sma_info_is, fails, goes_on, moved}
use Rattle.script_read.proofs.information.sma_info.Goals as goal

pub returns-in_err-limited-clause-read : goal.returns-in_err-limited-clause-read
returns-in_err-limited-clause-read c = λ last.
    let p = err_from_is_err_and c.from_residual.result c.from_residual.ensures.1 in
    rw (p.1, p.2) (fails c.in_err-limited.field-0.0 _ _ _ (sma_info_is last c.args.bytes.now) c.in_err-limited.ensures.read)

pub returns-clause-read : goal.returns-clause-read
returns-clause-read c = λ last.
    moved _ c.bare.result _ _ (goes_on _ _ _ _ (sma_info_is last c.args.bytes.now) c.in_ok-limited.ensures.read) (c.bare.ensures.read [])
