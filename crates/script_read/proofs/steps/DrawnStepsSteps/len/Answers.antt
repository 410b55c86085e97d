use Rattle.std.proofs.Common.{sym, ap, length, ◌∙◌}
use Rattle.script_read.proofs.ComingSteps.{draws_counted}
use Rattle.script_read.proofs.steps.DrawnStepsSteps.len.Goals as goal

pub returns : goal.returns
returns c =
    let s = c.self.inside in
    sym (draws_counted s.worker s.workers s.left s.state) ∙ ap length c.self.view_is
