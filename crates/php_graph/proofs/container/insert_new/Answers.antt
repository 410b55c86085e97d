use Rattle.std.proofs.Common.{◌∙◌, sym, inr}
use Rattle.php_graph.proofs.KeyLemmas.{repeated_is}
use Rattle.php_graph.proofs.container.insert_new.Goals as goal

pub returns-then-contains-clause-answer : goal.returns-then-contains-clause-answer
returns-then-contains-clause-answer c = λ ks has. inr (repeated_is ks c.args.key.now c.args.keys.now has (sym c.contains.ensures ∙ c.if-contains.true))
