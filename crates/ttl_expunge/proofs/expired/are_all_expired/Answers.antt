use Rattle.std.proofs.Common.{refl, ap, ◌∙◌, arith, List}
use Rattle.apcu_model.specs.Cache.{Row}
use Rattle.apcu_model.specs.Change.{leaving}
use Rattle.entry_slots.specs.Standing.{entries}
use Rattle.ttl_expunge.proofs.ReadOnlyCalls.{stand_kept}
use Rattle.ttl_expunge.proofs.ExpiredChains.{over_starts, over_on, over_ends}
use Rattle.ttl_expunge.proofs.expired.are_all_expired.Goals as goal

pub loop-slot-init : goal.loop-slot-init
loop-slot-init g c = record { over = over_starts (entries c.args.slots.now) c.args.t; kept = record { words = refl; aside = refl; rest = refl } }

pub is_chain_expired-requires : goal.is_chain_expired-requires
is_chain_expired-requires g c = record {
  stand = stand_kept c.args.slots.now c.loop-slot.invariant.kept c.requires.stand;
  slot = omega (arith, c.slots-end.ensures.slots);
  limit = c.requires.limit;
}

pub loop-slot-preserved : goal.loop-slot-preserved
loop-slot-preserved g c = record {
  over = over_on c.loop-slot.invariant.over (c.is_chain_expired.ensures.all c.if-not-is_chain_expired.false);
  kept = record {
    words = c.is_chain_expired.ensures.kept.words ∙ c.loop-slot.invariant.kept.words;
    aside = c.is_chain_expired.ensures.kept.aside ∙ c.loop-slot.invariant.kept.aside;
    rest = c.is_chain_expired.ensures.kept.rest ∙ c.loop-slot.invariant.kept.rest;
  };
}

pub returns-clause-all : goal.returns-clause-all
returns-clause-all g c = λ yes.
    let s = entries c.args.slots.now in
    let sound = c.standing_laws.ensures.sound c.args.slots.now (g.S.WordsIn.words c.args.seg.now) (g.S.WordsIn.aside c.args.seg.now) s c.requires.stand in
    ap (λ (rows : List Row). leaving s.conf rows) (over_ends c.loop-slot.invariant.over (omega (arith, c.slots-end.ensures.slots)) sound.usable.slots_least)
