use Rattle.simple_pool.proofs.PoolKeys.{keys_apart}
use Rattle.simple_pool.proofs.laws.keys_tell_pools_apart.Goals as goal

pub returns : goal.returns
returns c = keys_apart
