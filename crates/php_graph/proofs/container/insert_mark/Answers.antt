use Rattle.php_graph.proofs.KeyLemmas.{marks_more}
use Rattle.php_graph.proofs.container.insert_mark.Goals as goal

pub returns-clause-ok : goal.returns-clause-ok
returns-clause-ok c = λ ks k e has. marks_more ks k c.args.mark c.args.marks.now c.insert.new.self e c.in_ok-new.ensures.updates has
