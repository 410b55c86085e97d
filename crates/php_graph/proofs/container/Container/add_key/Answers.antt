use Rattle.php_graph.specs.Graph.{keys_of}
use Rattle.php_graph.proofs.KeyLemmas.{bounds_more}
use Rattle.php_graph.proofs.container.Container.add_key.Goals as goal

pub returns-clause-ok : goal.returns-clause-ok
returns-clause-ok c = record {
  bounded = rw (c.raised-self.ensures, c.mark-mark.ensures) (bounds_more c.args.self.now.highest (keys_of c.args.kind.now) c.args.key.now c.requires.bounded);
  sees = c.in_ok-see.ensures.ok;
}
