use Rattle.std.proofs.Common.{arith}
use Rattle.std.proofs.lemmas.Result.{err_from_is_err_and}
use Rattle.script_search.specs.ReadPatterns.{IsReadableScript}
use Rattle.script_search.proofs.ReadablePatterns.{one_more, all_of}
use Rattle.script_read.proofs.RefusablePatterns.{script_refusable}
use Rattle.script_search.proofs.try_patterns.Goals as goal

pub loop-worker-init : goal.loop-worker-init
loop-worker-init g c = λ k x low at. absurd (omega (arith, low))

pub returns-in_err-try_script-clause-refused : goal.returns-in_err-try_script-clause-refused
returns-in_err-try_script-clause-refused g c =
    let p = err_from_is_err_and c.from_residual.result c.from_residual.ensures.1 in
    rw (p.1, p.2) (λ is. script_refusable _ c.args.scripts.now c.loop-worker.worker c.at.result.now c.at.ensures (c.in_err-try_script.ensures.refused is))

pub loop-worker-preserved : goal.loop-worker-preserved
loop-worker-preserved g c =
    one_more IsReadableScript c.args.scripts.now c.loop-worker.worker c.at.result.now c.loop-worker.invariant c.at.ensures c.in_ok-try_script.ensures.readable

pub returns-clause-readable : goal.returns-clause-readable
returns-clause-readable g c =
    all_of IsReadableScript c.args.scripts.now c.loop-worker.worker
    (omega (arith, c.loop-worker-test.false, c.len-worker-end.ensures, c.loop-worker.auto.worker-end)) c.loop-worker.invariant
