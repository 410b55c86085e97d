use Rattle.std.proofs.Common.{rules}
use Rattle.std.proofs.lemmas.Result.{err_from_is_err_and}
use Rattle.apcu_play.proofs.Causes.{cause_for, seed_cause}
use Rattle.apcu_play.proofs.answering.answer.Goals as goal

pub returns-in_err-bytes-in-Play-clause-cause : goal.returns-in_err-bytes-in-Play-clause-cause
returns-in_err-bytes-in-Play-clause-cause g c =
    let p = err_from_is_err_and c.from_residual.result c.from_residual.ensures.1 in
    let s = c.args.settings.now in
    rw (p.1, p.2) (cause_for (g.M.Maker.may_refuse c.args.maker.now) s.conf s.task _ _ _ _ _ _ _ (c.in_err-bytes-in-Play.ensures.cause s.conf s.task))

pub returns-in_err-bytes-in-Verify-clause-cause : goal.returns-in_err-bytes-in-Verify-clause-cause
returns-in_err-bytes-in-Verify-clause-cause g c =
    let p = err_from_is_err_and c.from_residual-in_err-bytes-in-Verify.result c.from_residual-in_err-bytes-in-Verify.ensures.1 in
    let s = c.args.settings.now in
    rw (p.1, p.2) (cause_for (g.M.Maker.may_refuse c.args.maker.now) s.conf s.task _ _ _ _ _ _ _ (c.in_err-bytes-in-Verify.ensures.cause s.conf s.task))

pub returns-in-Generate-clause-cause : goal.returns-in-Generate-clause-cause
returns-in-Generate-clause-cause g c =
    let w = c.in-Generate in
    seed_cause _ c.args.settings.now.conf c.args.settings.now.task w.seed w.workers w.calls _ _ c.answer_seed.result (search rules) c.answer_seed.ensures.too_many c.answer_seed.ensures.others
