use Rattle.std.proofs.Common.{ap, ◌∙◌}
use Rattle.entry_slots.specs.Entries.{Entries}
use Rattle.entry_slots.specs.Standing.{entries}
use Rattle.ttl_expunge.proofs.OpenWindows.{sweeps_open, sweeps_held}
use Rattle.ttl_expunge.proofs.RoomLemmas.{room_on}
use Rattle.ttl_expunge.proofs.room.make_room.Goals as goal

pub make_room_next-requires-clause-whole : goal.make_room_next-requires-clause-whole
make_room_next-requires-clause-whole g c = (
  ap (λ (x : Entries). x.unlinked) c.sweep_removed.ensures.sweeps.swept ∙ c.requires.whole.0,
  ap (λ (x : Entries). x.taken) c.sweep_removed.ensures.sweeps.swept ∙ c.requires.whole.1,
)

pub make_room_next-requires-clause-held : goal.make_room_next-requires-clause-held
make_room_next-requires-clause-held g c =
    sweeps_held (entries c.args.slots.now) (entries c.sweep_removed.new.slots) (g.S.WordsIn.aside c.args.seg.now) (g.S.WordsIn.aside c.sweep_removed.new.seg) c.sweep_removed.ensures.sweeps

pub make_room_next-requires-clause-ready : goal.make_room_next-requires-clause-ready
make_room_next-requires-clause-ready g c = record { stand = c.sweep_removed.ensures.stand; refused = c.sweep_removed.ensures.sweeps.refused }

pub returns : goal.returns
returns g c =
    let sweeps = c.sweep_removed.ensures.sweeps in
    record {
      made = room_on sweeps (sweeps_open (entries c.args.slots.now) (entries c.sweep_removed.new.slots) (g.S.WordsIn.aside c.args.seg.now) (g.S.WordsIn.aside c.sweep_removed.new.seg) sweeps) c.make_room_next.ensures.made;
      stand = c.make_room_next.ensures.stand;
      rest = c.make_room_next.ensures.rest ∙ c.sweep_removed.ensures.rest;
    }
