use Rattle.php_graph.specs.Graph.{keys_of}
use Rattle.php_graph.proofs.KeyLemmas.{ok_at, err_at}
use Rattle.php_graph.proofs.container.see_marked.Goals as goal

pub returns-clause-ok : goal.returns-clause-ok
returns-clause-ok c = ok_at (keys_of c.args.kind.now) c.args.key.now c.in-Ok.keys c.insert_new-noted.new.keys c.insert_new-noted.result c.in-Ok.ensures c.insert_new-noted.ensures.ok

pub returns-clause-err : goal.returns-clause-err
returns-clause-err c = err_at (keys_of c.args.kind.now) c.in-Ok.keys c.insert_new-noted.new.keys c.insert_new-noted.result c.in-Ok.ensures c.insert_new-noted.ensures.err
