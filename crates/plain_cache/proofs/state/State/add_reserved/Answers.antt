use Rattle.std.proofs.Common.{rules, sym, ap, ◌∙◌, arith}
use Rattle.std.proofs.lemmas.Grind.{common_steps}
use Rattle.apcu_model.specs.Change.{Insertion}
use Rattle.plain_cache.proofs.state.State.add_reserved.Goals as goal

pub returns-in-Some-clause-after : goal.returns-in-Some-clause-after
returns-in-Some-clause-after c = search (rules, c.insert_reserved.ensures.after ∙ sym (ap (λ (i : Insertion). i.cache) c.in-Some.ensures.taken))

pub returns-in_default-clause-after : goal.returns-in_default-clause-after
returns-in_default-clause-after c = grind (arith, common_steps)
