use Rattle.std.proofs.Common.{◌∙◌, ℕ, List, subst}
use Rattle.std.proofs.lemmas.Result.{err_from_is_err_and}
use Rattle.conf_read.specs.declared.task.Task.TheVariants.{Play}
use Rattle.apcu_play.specs.Causes.{IsCauseIn}
use Rattle.apcu_play.proofs.Causes.{cause_in_for, crew_cause, few_of, many_of}
use Rattle.apcu_play.proofs.answering.answer_input.Goals as goal

pub returns-in_err-crew-clause-cause : goal.returns-in_err-crew-clause-cause
returns-in_err-crew-clause-cause g c =
    let p = err_from_is_err_and c.from_residual.result c.from_residual.ensures.1 in
    let conf = c.args.settings.now.conf in
    rw (p.1, p.2) (subst (λ (bytes : List ℕ). IsCauseIn (g.M.Maker.may_refuse c.args.maker.now) conf (Play c.args.preload c.args.map) bytes c.in_err-crew.field-0.0) c.deref.ensures.value
    (cause_in_for (g.M.Maker.may_refuse c.args.maker.now) conf (Play c.args.preload c.args.map) c.deref.result.now c.in_err-crew.field-0.0 (c.in_err-crew.ensures.cause conf c.args.map)))

pub returns-in-Err-clause-cause : goal.returns-in-Err-clause-cause
returns-in-Err-clause-cause g c =
    let conf = c.args.settings.now.conf in
    let crew = c.in_ok-crew.crew in
    subst (λ (bytes : List ℕ). IsCauseIn (g.M.Maker.may_refuse c.args.maker.now) conf (Play c.args.preload c.args.map) bytes c.of.result) c.deref.ensures.value
    (crew_cause (g.M.Maker.may_refuse c.args.maker.now) conf (Play c.args.preload c.args.map) c.deref.result.now c.in-Err.fault crew c.of.result (c.of.ensures ∙ c.status_of.ensures) c.in_ok-crew.ensures.crew
    (λ e. many_of c.args.preload conf crew (c.in-Err.ensures.many e))
    (λ e. (few_of c.args.preload conf crew (c.in-Err.ensures.pattern e).0 c.in_ok-crew.ensures.most, (c.in-Err.ensures.pattern e).1))
    (λ before after crowded. crowded))
