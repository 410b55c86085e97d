use Rattle.std.proofs.Common.{List, ℕ}
use Rattle.php_graph.specs.declared.kind.Kind.{Kind}
use Rattle.simple_pool.specs.Names.{is_good_key}
use Rattle.simple_pool.proofs.KeyRequests.{all_at}
use Rattle.simple_pool.proofs.requests.store_at.Goals as goal

pub store-requires-clause-key : goal.store-requires-clause-key
store-requires-clause-key c =
    all_at (λ (pair : List ℕ × List Kind). is_good_key pair.0) c.args.pairs.now c.args.i (c.at.result.0.now, c.at.result.1.now) c.requires.pairs c.at.ensures
