use Rattle.std.proofs.Common.{◌≡◌, ◌++◌, [], ◌∷◌, List, length, length-append, slice_get, sym, ap, ◌∙◌, arith}
use Rattle.script_read.specs.declared.script.Step.{Step}
use Rattle.script_read.specs.GeneratedScripts.{step_now}
use Rattle.preload_set.specs.Bundle.{Record}
use Rattle.preload_set.proofs.Loaders.{one_step}
use Rattle.preload_set.proofs.loading.loader.Goals as goal

pub loop-i-preserved : goal.loop-i-preserved
loop-i-preserved c =
    let r : Record = (c.at.result.0.now, c.at.result.1.now) in
    let step = step_now c.in_ok-call.call in
    let pushed : c.push.new.self ≡ c.loop-i.script ++ step ∷ [] = c.in_ok-push.ensures in
    record {
      whole = one_step c.args.bundle.now c.loop-i.i r c.loop-i.script c.push.new.self step (ap (λ (l : List Record). slice_get l c.loop-i.i) (sym c.bundle.view_is) ∙ c.at.ensures) pushed (ap step_now c.in_ok-call.ensures) c.loop-i.invariant.whole;
      count = omega (arith, ap (λ (l : List Step). length l) pushed, length-append c.loop-i.script (step ∷ []), c.loop-i.invariant.count);
    }
