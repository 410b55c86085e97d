use Rattle.std.proofs.Common.{arith}
use Rattle.std.proofs.lemmas.Result.{err_from_is_err_and}
use Rattle.script_read.specs.declared.script.Step.{Step}
use Rattle.script_read.specs.Patterns.{call_pattern}
use Rattle.script_search.specs.ReadPatterns.{IsReadable}
use Rattle.script_search.proofs.ReadablePatterns.{one_more, all_of}
use Rattle.script_read.proofs.RefusablePatterns.{step_refusable}
use Rattle.script_search.proofs.try_script.Goals as goal

pub loop-number-init : goal.loop-number-init
loop-number-init g c = λ k x low at. absurd (omega (arith, low))

pub returns-in_err-try_call-clause-refused : goal.returns-in_err-try_call-clause-refused
returns-in_err-try_call-clause-refused g c =
    let p = err_from_is_err_and c.from_residual.result c.from_residual.ensures.1 in
    rw (p.1, p.2) (λ is. step_refusable _ c.args.script.now c.loop-number.number c.at.result.now c.at.ensures.step (c.in_err-try_call.ensures.refused is))

pub loop-number-preserved : goal.loop-number-preserved
loop-number-preserved g c =
    one_more (λ (step : Step). IsReadable (call_pattern step.call)) c.args.script.now c.loop-number.number c.at.result.now c.loop-number.invariant c.at.ensures.step c.in_ok-try_call.ensures.readable

pub returns-clause-readable : goal.returns-clause-readable
returns-clause-readable g c =
    all_of (λ (step : Step). IsReadable (call_pattern step.call)) c.args.script.now c.loop-number.number
    (omega (arith, c.loop-number-test.false, c.len-number-end.ensures, c.loop-number.auto.number-end)) c.loop-number.invariant
