use Rattle.entry_slots.proofs.slots.EntrySlots.find_in.Goals as goal

pub finder-requires : goal.finder-requires
finder-requires g c = record { stand = record { words = g.S.WordsIn.words c.args.seg.now; aside = g.S.WordsIn.aside c.args.seg.now; stand = c.requires.stand } }

pub find-requires : goal.find-requires
find-requires g c = record {
  short = c.requires.short;
  finds = (c.args.self.now, record { stand = c.requires.stand; slots = c.finder.ensures.slots; rows = c.finder.ensures.rows }, c.requires.slot);
}

pub returns-clause-row : goal.returns-clause-row
returns-clause-row g c = c.find.ensures.row c.args.self.now (record { stand = c.requires.stand; slots = c.finder.ensures.slots; rows = c.finder.ensures.rows }) c.requires.slot
