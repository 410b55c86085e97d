use Rattle.std.proofs.Common.{◌≡◌, ◌+◌, ◌-◌, ◌++◌, [], ◌∷◌, List, length, length-append, ap, ◌∙◌, arith}
use Rattle.script_read.specs.declared.script.Step.{Step}
use Rattle.script_read.specs.GeneratedScripts.{step_now, state_after, drawn_number, draw_of, call_of}
use Rattle.script_read.proofs.DrawnScripts.{one_step, rest_of}
use Rattle.script_read.proofs.drawing.script_of.Goals as goal

pub loop-call-preserved : goal.loop-call-preserved
loop-call-preserved c =
    let step = step_now c.in_ok-call.call in
    let pushed : c.push.new.self ≡ c.loop-call.script ++ step ∷ [] = c.in_ok-push.ensures in
    let call : c.in_ok-call.call ≡ call_of c.args.worker (draw_of c.args.workers (drawn_number (state_after c.loop-call.state))) =
    c.in_ok-call.ensures ∙ ap (λ s. call_of c.args.worker (draw_of c.args.workers (drawn_number s))) c.state_after-state.ensures in
    let made : step ≡ step_now (call_of c.args.worker (draw_of c.args.workers (drawn_number (state_after c.loop-call.state)))) = ap step_now call in
    let whole = one_step c.args.worker c.args.workers c.args.calls c.loop-call._call c.loop-call.state c.loop-call.script c.push.new.self (rest_of c.args.worker c.args.workers c.args.calls c.args.first) step c.loop-call-test.true pushed made c.loop-call.invariant.whole in
    record {
      whole = ap (λ s. c.push.new.self ++ rest_of c.args.worker c.args.workers (c.args.calls - (c.loop-call._call + 1)) s) c.state_after-state.ensures ∙ whole;
      count = omega (arith, ap (λ (l : List Step). length l) pushed, length-append c.loop-call.script (step ∷ []), c.loop-call.invariant.count);
    }
