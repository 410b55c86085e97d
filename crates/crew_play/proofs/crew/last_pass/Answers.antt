use Rattle.std.proofs.Common.{refl, ap, sym, subst, ◌∙◌}
use Rattle.pin_table.specs.Values.{PassView}
use Rattle.worker_play.specs.Goes.{KnowsOwnEvents}
use Rattle.crew_play.proofs.Crews.{first_last}
use Rattle.crew_play.proofs.crew.last_pass.Goals as goal

pub returns-clause-rest : goal.returns-clause-rest
returns-clause-rest g c =
    (first_last g.N.TableName.table g.N.TableName.budgets c.args.count c.pop.new.self c.in-Some.pass c.requires.some (sym c.requires.passes ∙ c.in-Some.ensures.some)).0

pub returns-clause-table : goal.returns-clause-table
returns-clause-table g c =
    ap (λ (b : PassView). b.table) (first_last g.N.TableName.table g.N.TableName.budgets c.args.count c.pop.new.self c.in-Some.pass c.requires.some (sym c.requires.passes ∙ c.in-Some.ensures.some)).1

pub returns-clause-worker : goal.returns-clause-worker
returns-clause-worker g c =
    ap (λ (b : PassView). b.known.worker) (first_last g.N.TableName.table g.N.TableName.budgets c.args.count c.pop.new.self c.in-Some.pass c.requires.some (sym c.requires.passes ∙ c.in-Some.ensures.some)).1

pub returns-clause-no_event : goal.returns-clause-no_event
returns-clause-no_event g c =
    ap (λ (b : PassView). b.known.own) (first_last g.N.TableName.table g.N.TableName.budgets c.args.count c.pop.new.self c.in-Some.pass c.requires.some (sym c.requires.passes ∙ c.in-Some.ensures.some)).1

pub returns-clause-whole : goal.returns-clause-whole
returns-clause-whole g c =
    subst KnowsOwnEvents (sym (first_last g.N.TableName.table g.N.TableName.budgets c.args.count c.pop.new.self c.in-Some.pass c.requires.some (sym c.requires.passes ∙ c.in-Some.ensures.some)).1) refl

pub returns-clause-left : goal.returns-clause-left
returns-clause-left g c =
    ap (λ (b : PassView). b.known.left) (first_last g.N.TableName.table g.N.TableName.budgets c.args.count c.pop.new.self c.in-Some.pass c.requires.some (sym c.requires.passes ∙ c.in-Some.ensures.some)).1
