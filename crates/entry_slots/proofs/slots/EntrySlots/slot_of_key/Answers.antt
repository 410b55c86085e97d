use Rattle.entry_slots.proofs.slots.EntrySlots.slot_of_key.Goals as goal

pub returns : goal.returns
returns c = record { slot = c.slot_of_hash.ensures.slot c.args.key.now c.hash_of.ensures }
