use Rattle.std.proofs.Common.{◌≡◌, ◌+◌, ◌%◌, ◌^◌, Some, slice_get, sym, subst}
use Rattle.script_read.specs.GeneratedScripts.{draws_from, steps_of_draws, generated}
use Rattle.script_read.proofs.ComingSteps.{generated_at}
use Rattle.script_read.proofs.steps.DrawnSteps.of.Goals as goal

pub returns : goal.returns
returns c =
    let all = generated c.args.seed c.args.workers c.args.calls in
    subst (λ n. slice_get all c.args.worker ≡ Some (steps_of_draws c.from-worker.result (draws_from n c.args.calls ((c.args.seed + c.from-worker.result) % 2 ^ 64)))) (sym c.from.ensures)
    (subst (λ w. slice_get all c.args.worker ≡ Some (steps_of_draws w (draws_from c.args.workers c.args.calls ((c.args.seed + w) % 2 ^ 64)))) (sym c.from-worker.ensures)
    (generated_at c.args.seed c.args.workers c.args.calls c.args.worker c.requires))
