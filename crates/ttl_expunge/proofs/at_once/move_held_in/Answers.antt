use Rattle.std.proofs.Common.{◌<◌, sym, ap, ◌∙◌, subst}
use Rattle.std.proofs.lemmas.Bool.{or_left}
use Rattle.entry_slots.specs.Lists.{is_at, has_place}
use Rattle.entry_slots.specs.Entries.{Entries}
use Rattle.std.proofs.lemmas.List.Folds.{list_any-append}
use Rattle.ttl_expunge.proofs.ReadOnlyCalls.{stand_kept}
use Rattle.ttl_expunge.proofs.EventSteps.{may_kept, moves_kept}
use Rattle.ttl_expunge.proofs.SlotMoves.{moving_starts, moving_next, moving_on, moving_falls, moving_ends}
use Rattle.entry_slots.specs.Standing.{entries}
use Rattle.ttl_expunge.proofs.at_once.move_held_in.Goals as goal

pub loop-at-init : goal.loop-at-init
loop-at-init g c =
    let s = entries c.args.slots.now in
    let kept = c.first_in-at.ensures.kept in
    record {
      moving = moving_starts c.args.t s (g.S.WordsIn.aside c.args.seg.now) (g.S.WordsIn.aside c.first_in-at.new.seg) c.args.slot c.first_in-at.result kept.aside c.first_in-at.ensures.first c.requires.ready.refused;
      stand = stand_kept c.args.slots.now kept c.requires.ready.stand;
      rest = kept.rest;
    }

pub after-next-requires-clause-there : goal.after-next-requires-clause-there
after-next-requires-clause-there g c =
    let s = entries c.loop-at.slots in
    let sound = c.standing_laws.ensures.sound c.loop-at.slots (g.S.WordsIn.words c.loop-at.seg) (g.S.WordsIn.aside c.loop-at.seg) (entries c.loop-at.slots) c.loop-at.invariant.stand in
    let n = moving_next c.loop-at.invariant.moving sound c.loop-at-test.true in
    list_any-append (is_at c.loop-at.at) s.rows s.removed ∙ or_left (has_place c.loop-at.at s.rows) (has_place c.loop-at.at s.removed) n.listed

pub move_if_held-requires : goal.move_if_held-requires
move_if_held-requires g c =
    let sound = c.standing_laws.ensures.sound c.loop-at.slots (g.S.WordsIn.words c.loop-at.seg) (g.S.WordsIn.aside c.loop-at.seg) (entries c.loop-at.slots) c.loop-at.invariant.stand in
    let n = moving_next c.loop-at.invariant.moving sound c.loop-at-test.true in
    record {
      ready = may_kept c.loop-at.slots c.after-next.ensures.kept (record { stand = c.loop-at.invariant.stand; refused = c.loop-at.invariant.moving.moves.drops.refused });
      there = n.listed;
    }

pub loop-at-preserved : goal.loop-at-preserved
loop-at-preserved g c =
    let s = entries c.loop-at.slots in
    let sound = c.standing_laws.ensures.sound c.loop-at.slots (g.S.WordsIn.words c.loop-at.seg) (g.S.WordsIn.aside c.loop-at.seg) (entries c.loop-at.slots) c.loop-at.invariant.stand in
    let n = moving_next c.loop-at.invariant.moving sound c.loop-at-test.true in
    let drops = (moves_kept c.after-next.ensures.kept c.move_if_held.ensures).moves in
    let slot : c.args.slot < s.conf.slots = subst (λ k. c.args.slot < k) (sym (ap (λ (x : Entries). x.conf.slots) c.loop-at.invariant.moving.moves.drops.dropped)) c.requires.slot in
    record {
      moving = moving_on c.loop-at.invariant.moving n drops (c.after-next.ensures.row c.args.slot slot n.there);
      stand = c.move_if_held.ensures.stand;
      rest = c.move_if_held.ensures.rest ∙ (c.after-next.ensures.kept.rest ∙ c.loop-at.invariant.rest);
    }

pub loop-at-smaller : goal.loop-at-smaller
loop-at-smaller g c =
    let s = entries c.loop-at.slots in
    let sound = c.standing_laws.ensures.sound c.loop-at.slots (g.S.WordsIn.words c.loop-at.seg) (g.S.WordsIn.aside c.loop-at.seg) (entries c.loop-at.slots) c.loop-at.invariant.stand in
    let sound' = c.standing_laws.ensures.sound c.move_if_held.new.slots (g.S.WordsIn.words c.move_if_held.new.seg) (g.S.WordsIn.aside c.move_if_held.new.seg) (entries c.move_if_held.new.slots) c.move_if_held.ensures.stand in
    let n = moving_next c.loop-at.invariant.moving sound c.loop-at-test.true in
    let drops = (moves_kept c.after-next.ensures.kept c.move_if_held.ensures).moves in
    let slot : c.args.slot < s.conf.slots = subst (λ k. c.args.slot < k) (sym (ap (λ (x : Entries). x.conf.slots) c.loop-at.invariant.moving.moves.drops.dropped)) c.requires.slot in
    moving_falls c.loop-at.invariant.moving n drops (c.after-next.ensures.row c.args.slot slot n.there) sound'

pub returns : goal.returns
returns g c =
    let sound = c.standing_laws.ensures.sound c.loop-at.slots (g.S.WordsIn.words c.loop-at.seg) (g.S.WordsIn.aside c.loop-at.seg) (entries c.loop-at.slots) c.loop-at.invariant.stand in
    record {
      moves = moving_ends c.loop-at.invariant.moving sound c.loop-at-test.false;
      stand = c.loop-at.invariant.stand;
      rest = c.loop-at.invariant.rest;
    }
