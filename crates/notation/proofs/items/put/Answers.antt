use Rattle.std.proofs.Common.{sym, subst}
use Rattle.php_graph.specs.Building.{Draft}
use Rattle.notation.specs.Steps.{opens, IsValueStep}
use Rattle.notation.proofs.ItemSteps.{value_step}
use Rattle.notation.proofs.items.put.Goals as goal

pub returns-in-Ok-clause-value : goal.returns-in-Ok-clause-value
returns-in-Ok-clause-value c = λ v. subst (λ (e : Draft). IsValueStep c.args.builder.now e (opens c.args.item)) (sym c.in-Ok.ensures.ok.0) (value_step c.args.builder.now c.args.item c.in-Ok.ensures.ok.1 v)
