use Rattle.std.proofs.Common.{[]}
use Rattle.std.proofs.lemmas.Result.{err_from_is_err_and}
use Rattle.script_read.proofs.TableRows.{key_info_is, fails, goes_on, moved}
use Rattle.script_read.proofs.information.key_info.Goals as goal

pub returns-in_err-key-clause-read : goal.returns-in_err-key-clause-read
returns-in_err-key-clause-read c = λ last.
    let p = err_from_is_err_and c.from_residual.result c.from_residual.ensures.1 in
    rw (p.1, p.2) (fails c.in_err-key.field-0.0 _ _ _ (key_info_is last c.args.bytes.now) c.in_err-key.ensures.read)

pub returns-clause-read : goal.returns-clause-read
returns-clause-read c = λ last.
    moved _ c.bare.result _ _ (goes_on _ _ _ _ (key_info_is last c.args.bytes.now) c.in_ok-key.ensures.read) (c.bare.ensures.read [])
