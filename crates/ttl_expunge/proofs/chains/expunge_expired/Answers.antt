use Rattle.std.proofs.Common.{subst, List}
use Rattle.apcu_model.specs.Cache.{Row}
use Rattle.apcu_model.specs.Change.{leaving}
use Rattle.entry_slots.specs.Standing.{entries}
use Rattle.ttl_expunge.specs.Steps.{DropsRows}
use Rattle.ttl_expunge.proofs.ExpiredRows.{expired_rows}
use Rattle.ttl_expunge.proofs.chains.expunge_expired.Goals as goal

pub returns : goal.returns
returns g c =
    let s = entries c.args.slots.now in
    subst (λ (l : List Row). DropsRows g.S.WordsIn c.args.slots.now c.drop_all.new.slots c.args.seg.now c.drop_all.new.seg c.args.t (leaving s.conf l))
    (expired_rows s.conf c.args.ttl c.args.t s.rows c.requires.limit) c.drop_all.ensures
