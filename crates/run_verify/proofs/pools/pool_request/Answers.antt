use Rattle.run_verify.proofs.PoolAsks.{event_may}
use Rattle.run_verify.proofs.pools.pool_request.Goals as goal

pub returns-in_ok-request-in-Some-clause-may : goal.returns-in_ok-request-in-Some-clause-may
returns-in_ok-request-in-Some-clause-may c = event_may c.args.conf.now c.args.call.now c.args.k c.args.from c.in-Some.event _ c.requires c.in-Some.ensures c.in_ok-request-in-Some.ensures
