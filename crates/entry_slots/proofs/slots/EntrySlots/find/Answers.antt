use Rattle.entry_slots.proofs.slots.EntrySlots.find.Goals as goal

pub slot_of_key-slot-requires : goal.slot_of_key-slot-requires
slot_of_key-slot-requires g c = record { stand = record { words = g.S.WordsIn.words c.args.seg.now; aside = g.S.WordsIn.aside c.args.seg.now; stand = c.requires.stand } }
