use Rattle.std.proofs.Common.{refl, sym, ap, ◌∙◌, arith}
use Rattle.entry_slots.specs.Entries.{Entries}
use Rattle.ttl_expunge.specs.DropRules.{is_to_drop}
use Rattle.ttl_expunge.proofs.SlotOrder.{expunging_starts, expunging_on, expunging_ends}
use Rattle.entry_slots.specs.Standing.{entries}
use Rattle.ttl_expunge.proofs.chains.drop_all.Goals as goal

pub loop-slot-init : goal.loop-slot-init
loop-slot-init g c =
    let s = entries c.args.slots.now in
    record {
      expunging = expunging_starts (is_to_drop c.args.rule c.args.t) c.args.t s (g.S.WordsIn.aside c.args.seg.now) (g.S.WordsIn.aside c.args.seg.now) refl c.requires.ready.refused;
      within = omega arith;
      stand = c.requires.ready.stand;
      rest = refl;
    }

pub drop_chain-requires-clause-ready : goal.drop_chain-requires-clause-ready
drop_chain-requires-clause-ready g c = record { stand = c.loop-slot.invariant.stand; refused = c.loop-slot.invariant.expunging.drops.refused }

pub drop_chain-requires-clause-slot : goal.drop_chain-requires-clause-slot
drop_chain-requires-clause-slot g c =
    let same = ap (λ (x : Entries). x.conf.slots) c.loop-slot.invariant.expunging.drops.dropped in
    omega (arith, same, c.slots-end.ensures.slots)

pub drop_chain-requires-clause-limit : goal.drop_chain-requires-clause-limit
drop_chain-requires-clause-limit g c = λ ttl e. c.requires.limit ttl e ∙ ap (λ (x : Entries). x.conf.ttl) (sym c.loop-slot.invariant.expunging.drops.dropped)

pub loop-slot-preserved : goal.loop-slot-preserved
loop-slot-preserved g c = record {
  expunging = expunging_on c.loop-slot.invariant.expunging c.drop_chain.ensures.drops;
  within = omega arith;
  stand = c.drop_chain.ensures.stand;
  rest = c.drop_chain.ensures.rest ∙ c.loop-slot.invariant.rest;
}

pub returns : goal.returns
returns g c = record {
  drops = expunging_ends c.loop-slot.invariant.expunging (omega (arith, c.slots-end.ensures.slots, c.loop-slot.invariant.within));
  stand = c.loop-slot.invariant.stand;
  rest = c.loop-slot.invariant.rest;
}
