use Rattle.std.proofs.Common.{◌%◌, ap, ◌∙◌, arith}
use Rattle.entry_slots.specs.Standing.{entries}
use Rattle.entry_slots.proofs.slots.EntrySlots.slot_of_hash.Goals as goal

pub slot_in-requires : goal.slot_in-requires
slot_in-requires c = let h = c.requires.stand.stand in record { some = omega (arith, h.from, h.usable.slots_least) }

pub returns : goal.returns
returns c =
    let h = c.requires.stand.stand in
    record { slot = λ key is. c.slot_in.ensures.slot ∙ (ap (λ k. c.args.hash % k) h.from ∙ ap (λ k. k % (entries c.args.self.now).conf.slots) is) }
