use Rattle.std.proofs.Common.{◌<◌, ◌-◌, ◌∷◌, length, sym, ap, ◌∙◌, arith}
use Rattle.script_read.specs.GeneratedScripts.{step_now, state_after, drawn_number, draw_of, draws_from, call_of, steps_of_draws}
use Rattle.script_read.proofs.ComingSteps.{draws_counted, first_drawn}
use Rattle.script_read.proofs.steps.DrawnStepsSteps.next.Goals as goal

pub returns-clause-first : goal.returns-clause-first
returns-clause-first c =
    let s = c.self.inside in
    let some : 0 < s.left = omega (arith, c.requires, ap length c.self.view_is, draws_counted s.worker s.workers s.left s.state) in
    let call = c.in_ok-call.ensures ∙ ap (λ state. call_of s.worker (draw_of s.workers (drawn_number state))) c.state_after-state.ensures in
    sym c.self.view_is ∙ (first_drawn s.worker s.workers s.left s.state some
    ∙ (ap (λ k. step_now k ∷ steps_of_draws s.worker (draws_from s.workers (s.left - 1) (state_after s.state))) (sym call)
    ∙ ap (λ state. step_now c.in_ok-call.call ∷ steps_of_draws s.worker (draws_from s.workers (s.left - 1) state)) (sym c.state_after-state.ensures)))
