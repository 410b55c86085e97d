use Rattle.std.proofs.Common.{◌∙◌}
use Rattle.std.proofs.lemmas.Result.{err_from_is_err_and}
use Rattle.conf_read.specs.declared.task.Task.TheVariants.{Verify}
use Rattle.apcu_play.proofs.Causes.{cause_in_for, crew_cause}
use Rattle.apcu_play.proofs.answering.answer_output.Goals as goal

pub returns-in_err-scripts-clause-cause : goal.returns-in_err-scripts-clause-cause
returns-in_err-scripts-clause-cause g c =
    let p = err_from_is_err_and c.from_residual.result c.from_residual.ensures.1 in
    let conf = c.args.settings.now.conf in
    rw (p.1, p.2) (cause_in_for (g.M.Maker.may_refuse c.args.maker.now) conf (Verify c.args.len) c.args.bytes.now _ (c.in_err-scripts.ensures.cause conf))

pub returns-in-Err-clause-cause : goal.returns-in-Err-clause-cause
returns-in-Err-clause-cause g c =
    crew_cause (g.M.Maker.may_refuse c.args.maker.now) c.args.settings.now.conf (Verify c.args.len) c.args.bytes.now c.in-Err.fault c.in_ok-scripts.scripts c.of.result (c.of.ensures ∙ c.status_of.ensures) c.in_ok-scripts.ensures.scripts
    c.in-Err.ensures.many c.in-Err.ensures.pattern (λ before after crowded. crowded)
