use Rattle.entry_slots.proofs.slots.EntrySlots.is_hard_expired.Goals as goal

pub hard_expired_at-requires : goal.hard_expired_at-requires
hard_expired_at-requires g c = record { there = (c.args.self.now, record { stand = c.requires.stand; there = c.requires.there }) }

pub returns-clause-over : goal.returns-clause-over
returns-clause-over g c = λ row is. c.hard_expired_at.ensures.over c.args.self.now row (record { stand = c.requires.stand; there = c.requires.there }) is
