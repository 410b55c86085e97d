use Rattle.pool_laws.proofs.PoolIsolation.{Known, stands_alone}
use Rattle.pool_laws.proofs.laws.pools_stand_alone.Goals as goal

pub returns : goal.returns
returns c =
    let known : Known = record {
      shape = c.events_keep.ensures.conf_in;
      apart = c.events_keep.ensures.apart_in;
      more = c.one_event_more.ensures.after;
    } in
    stands_alone known
