use Rattle.std.proofs.Common.{◌≡◌, ◌<◌, ◌-◌, Some, length, slice_get, sym, ap, subst, ◌∙◌, arith}
use Rattle.script_read.proofs.ComingSteps.{rest_counted, first_read}
use Rattle.script_read.proofs.steps.ScriptStepsSteps.next.Goals as goal

pub returns-clause-first : goal.returns-clause-first
returns-clause-first c =
    let s = c.self.inside in
    let script = s.script.now in
    let step = c.at-step.result.now in
    let some : 0 < s.left = omega (arith, c.requires, ap length c.self.view_is, rest_counted script s.left c.self.invariant) in
    let first = subst (λ n. slice_get script (n - s.left) ≡ Some step) c.len.ensures c.at-step.ensures.step in
    sym c.self.view_is ∙ first_read script s.left step some c.self.invariant first
