use Rattle.pool_laws.proofs.CallEvents as lemmas
use Rattle.pool_laws.proofs.laws.calls_stand_alone.Goals as goal

pub returns : goal.returns
returns c = lemmas.calls_stand_alone c.pools_stand_alone.ensures
