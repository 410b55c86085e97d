use Rattle.std.proofs.Common.{ap, ◌∙◌}
use Rattle.simple_pool.specs.Names.{is_good_key}
use Rattle.simple_pool.proofs.KeyRequests.{all_at}
use Rattle.simple_pool.proofs.requests.key_at.Goals as goal

pub pool_key-requires-clause-key : goal.pool_key-requires-clause-key
pool_key-requires-clause-key c =
    ap is_good_key c.as_slice.ensures.bytes ∙ all_at is_good_key c.args.keys.now c.args.i c.at.result.now c.requires.keys c.at.ensures
