use Rattle.php_graph.proofs.KeyLemmas.{copy_inserted}
use Rattle.php_graph.proofs.container.insert_copy.Goals as goal

pub returns-clause-ok : goal.returns-clause-ok
returns-clause-ok c = λ ks has. copy_inserted ks c.args.key.now c.in_ok-try_copy.field-0 c.args.set.now c.insert.new.self c.in_ok-try_copy.ensures c.in_ok-insert.ensures.updates has
