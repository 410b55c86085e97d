use Rattle.pool_laws.proofs.PoolRequests.{tied}
use Rattle.pool_laws.proofs.laws.calls_are_tied.Goals as goal

pub returns : goal.returns
returns c = tied
