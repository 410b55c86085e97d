use Rattle.entry_slots.proofs.slots.EntrySlots.finder.Goals as goal

pub returns : goal.returns
returns c = record { slots = c.requires.stand.stand.from; rows = c.requires.stand.stand.count }
