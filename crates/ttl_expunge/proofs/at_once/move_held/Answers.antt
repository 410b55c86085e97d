use Rattle.std.proofs.Common.{◌≡◌, ℕ, refl, ap, ◌∙◌, subst, arith}
use Rattle.std.specs.List.{flat_map, range_with_len}
use Rattle.apcu_model.specs.Change.{leaving}
use Rattle.entry_slots.specs.Entries.{Entries, chain_of}
use Rattle.ttl_expunge.specs.ProbedRows.{Moves}
use Rattle.ttl_expunge.proofs.SlotMoves.{passing_starts, passing_on}
use Rattle.entry_slots.specs.Standing.{entries}
use Rattle.ttl_expunge.proofs.at_once.move_held.Goals as goal

pub loop-slot-init : goal.loop-slot-init
loop-slot-init g c =
    let s = entries c.args.slots.now in
    record {
      passing = passing_starts c.args.t s (g.S.WordsIn.aside c.args.seg.now) (g.S.WordsIn.aside c.args.seg.now) refl c.requires.ready.refused;
      within = omega arith;
      stand = c.requires.ready.stand;
      rest = refl;
    }

pub move_held_in-requires : goal.move_held_in-requires
move_held_in-requires g c =
    let same = ap (λ (x : Entries). x.conf.slots) c.loop-slot.invariant.passing.moves.drops.dropped in
    record {
      ready = record { stand = c.loop-slot.invariant.stand; refused = c.loop-slot.invariant.passing.moves.drops.refused };
      slot = omega (arith, same, c.slots-end.ensures.slots);
    }

pub loop-slot-preserved : goal.loop-slot-preserved
loop-slot-preserved g c = record {
  passing = passing_on c.loop-slot.invariant.passing c.move_held_in.ensures.moves;
  within = omega arith;
  stand = c.move_held_in.ensures.stand;
  rest = c.move_held_in.ensures.rest ∙ c.loop-slot.invariant.rest;
}

pub returns : goal.returns
unfolding leaving
returns g c =
    let s = entries c.args.slots.now in
    let all : c.loop-slot.slot ≡ s.conf.slots = omega (arith, c.slots-end.ensures.slots, c.loop-slot.invariant.within) in
    record {
      moves = subst (λ (k : ℕ). Moves s (entries c.loop-slot.slots) (g.S.WordsIn.aside c.args.seg.now) (g.S.WordsIn.aside c.loop-slot.seg) c.args.t (flat_map (chain_of s) (range_with_len 0 k))) all c.loop-slot.invariant.passing.moves;
      stand = c.loop-slot.invariant.stand;
      rest = c.loop-slot.invariant.rest;
    }
