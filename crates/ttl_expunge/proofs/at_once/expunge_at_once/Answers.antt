use Rattle.std.proofs.Common.{ap, ◌∙◌}
use Rattle.seg_words.specs.Windows.{Aside, is_named}
use Rattle.entry_slots.specs.Entries.{Entries}
use Rattle.entry_slots.specs.Standing.{entries}
use Rattle.ttl_expunge.proofs.ReadOnlyCalls.{stand_kept}
use Rattle.ttl_expunge.proofs.EventSteps.{may_kept, drops_kept}
use Rattle.ttl_expunge.proofs.SlotMoves.{left_unnamed, all_gone, all_left}
use Rattle.ttl_expunge.proofs.at_once.expunge_at_once.Goals as goal

pub expunge_all-requires : goal.expunge_all-requires
expunge_all-requires g c = record {
  ready = may_kept c.move_held.new.slots c.removed_places.ensures.kept (record { stand = c.move_held.ensures.stand; refused = c.move_held.ensures.moves.drops.refused });
}

pub returns-in_default : goal.returns-in_default
returns-in_default g c =
    let sound = c.standing_laws.ensures.sound c.args.slots.now (g.S.WordsIn.words c.args.seg.now) (g.S.WordsIn.aside c.args.seg.now) (entries c.args.slots.now) c.requires.ready.stand in
    let left = drops_kept c.removed_places.ensures.kept c.expunge_all.ensures in
    record {
      drops = all_left c.move_held.ensures.moves sound.usable.slots_least left.drops;
      stand = left.stand;
      rest = left.rest ∙ c.move_held.ensures.rest;
    }

pub free_beside-requires-clause-stand : goal.free_beside-requires-clause-stand
free_beside-requires-clause-stand g c = stand_kept c.move_held.new.slots c.removed_places.ensures.kept c.move_held.ensures.stand

pub free_beside-requires-clause-whole : goal.free_beside-requires-clause-whole
free_beside-requires-clause-whole g c = (
  ap (λ (x : Entries). x.unlinked) c.move_held.ensures.moves.drops.dropped ∙ c.requires.whole.0,
  ap (λ (x : Entries). x.taken) c.move_held.ensures.moves.drops.dropped ∙ c.requires.whole.1,
)

pub free_beside-requires-clause-unnamed : goal.free_beside-requires-clause-unnamed
free_beside-requires-clause-unnamed g c = λ at h.
    let sound = c.standing_laws.ensures.sound c.args.slots.now (g.S.WordsIn.words c.args.seg.now) (g.S.WordsIn.aside c.args.seg.now) (entries c.args.slots.now) c.requires.ready.stand in
    ap (λ (a : Aside). is_named a.windows at) c.removed_places.ensures.kept.aside ∙ left_unnamed c.move_held.ensures.moves sound.usable.slots_least at h

pub returns : goal.returns
returns g c =
    let sound = c.standing_laws.ensures.sound c.args.slots.now (g.S.WordsIn.words c.args.seg.now) (g.S.WordsIn.aside c.args.seg.now) (entries c.args.slots.now) c.requires.ready.stand in
    record {
      drops = all_gone c.move_held.ensures.moves sound.usable.slots_least c.free_beside.ensures.freed (c.free_beside.ensures.beside.aside ∙ c.removed_places.ensures.kept.aside);
      stand = c.free_beside.ensures.stand;
      rest = c.free_beside.ensures.beside.rest ∙ (c.removed_places.ensures.kept.rest ∙ c.move_held.ensures.rest);
    }
