use Rattle.entry_slots.proofs.slots.EntrySlots.key_is.Goals as goal

pub has_key_at-requires : goal.has_key_at-requires
has_key_at-requires g c = record { there = (c.args.self.now, record { stand = c.requires.stand; there = c.requires.there }); short = c.requires.short }

pub returns-clause-is : goal.returns-clause-is
returns-clause-is g c = λ row is. c.has_key_at.ensures.is c.args.self.now row (record { stand = c.requires.stand; there = c.requires.there }) is
