use Rattle.std.proofs.Common.{◌-◌, ◌<◌, sym, subst}
use Rattle.script_read.specs.Budgets.{events_in}
use Rattle.crew_play.proofs.crew.last_worker.Goals as goal

pub returns-clause-enough : goal.returns-clause-enough
returns-clause-enough g c =
    subst (λ n. events_in g.N.TableName.conf.slots c.at.result.now < n) (sym c.last_pass.ensures.left) (c.requires.enough (c.args.count - 1) c.at.result.now c.at.ensures)
