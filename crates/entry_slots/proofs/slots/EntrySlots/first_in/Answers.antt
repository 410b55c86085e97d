use Rattle.entry_slots.proofs.slots.EntrySlots.first_in.Goals as goal

pub first_of-requires : goal.first_of-requires
first_of-requires g c = record { low = (c.args.self.now, record { stand = c.requires.stand; low = c.requires.slot }) }

pub returns-clause-first : goal.returns-clause-first
returns-clause-first g c = c.first_of.ensures.first c.args.self.now (record { stand = c.requires.stand; low = c.requires.slot })
