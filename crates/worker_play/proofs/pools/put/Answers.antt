use Rattle.worker_play.proofs.PoolKeys.{put_stored, put_deleted}
use Rattle.worker_play.proofs.pools.put.Goals as goal

pub returns-in-Some : goal.returns-in-Some
returns-in-Some g c = put_stored _ _ _ _ _ _ _ _ _ _ c.in-Some.is c.store.ensures

pub returns-in-None : goal.returns-in-None
returns-in-None g c = put_deleted _ _ _ _ _ _ _ _ _ c.in-None.is c.delete-pass.ensures
