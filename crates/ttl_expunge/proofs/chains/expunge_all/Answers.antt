use Rattle.std.proofs.Common.{true, refl, subst, List}
use Rattle.apcu_model.specs.Cache.{Row}
use Rattle.apcu_model.specs.Change.{leaving}
use Rattle.seg_words.specs.Members.{filter_all}
use Rattle.entry_slots.specs.Standing.{entries}
use Rattle.ttl_expunge.specs.Steps.{DropsRows}
use Rattle.ttl_expunge.proofs.chains.expunge_all.Goals as goal

pub returns : goal.returns
returns g c =
    let s = entries c.args.slots.now in
    subst (λ (l : List Row). DropsRows g.S.WordsIn c.args.slots.now c.drop_all.new.slots c.args.seg.now c.drop_all.new.seg c.args.t (leaving s.conf l))
    (filter_all (λ (row : Row). true) s.rows (λ row m. refl)) c.drop_all.ensures
