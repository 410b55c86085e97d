use Rattle.std.proofs.Common.{◌≡◌, ◌++◌, [], ◌∷◌, List, length, length-append, ap, ◌∙◌, arith, ◌%◌, ◌^◌, ◌+◌}
use Rattle.script_read.specs.declared.script.Step.{Step}
use Rattle.script_read.specs.GeneratedScripts.{draws_from, steps_of_draws, generated}
use Rattle.script_read.proofs.DrawnScripts.{one_script, rest_of}
use Rattle.script_read.proofs.drawing.generate.Goals as goal

pub loop-worker-preserved : goal.loop-worker-preserved
loop-worker-preserved c =
    let pushed : c.push.new.self ≡ c.loop-worker.scripts ++ c.in_ok-script.script ∷ [] = c.in_ok-push.ensures in
    let script : c.in_ok-script.script ≡ rest_of c.loop-worker.worker c.args.workers c.args.calls ((c.args.seed + c.loop-worker.worker) % 2 ^ 64) =
    c.in_ok-script.ensures
    ∙ (ap (λ w. steps_of_draws w (draws_from c.from-in-loop-worker-2.result c.args.calls ((c.args.seed + c.from.result) % 2 ^ 64))) c.from-in-loop-worker.ensures
    ∙ (ap (λ w. rest_of c.loop-worker.worker w c.args.calls ((c.args.seed + c.from.result) % 2 ^ 64)) c.from-in-loop-worker-2.ensures
    ∙ ap (λ w. rest_of c.loop-worker.worker c.args.workers c.args.calls ((c.args.seed + w) % 2 ^ 64)) c.from.ensures)) in
    record {
      whole = one_script c.args.seed c.args.workers c.args.calls c.loop-worker.worker c.loop-worker.scripts c.push.new.self (generated c.args.seed c.args.workers c.args.calls) c.in_ok-script.script c.loop-worker-test.true pushed script c.loop-worker.invariant.whole;
      count = omega (arith, ap (λ (l : List (List Step)). length l) pushed, length-append c.loop-worker.scripts (c.in_ok-script.script ∷ []), c.loop-worker.invariant.count);
    }
