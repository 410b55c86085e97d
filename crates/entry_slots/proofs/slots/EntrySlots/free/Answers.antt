use Rattle.std.proofs.Common.{◌≡◌, true, sym, ap, subst, ◌∙◌}
use Rattle.entry_slots.specs.Lists.{has_place}
use Rattle.entry_slots.specs.Entries.{Entries, freed_at}
use Rattle.entry_slots.specs.Standing.{entries}
use Rattle.entry_slots.proofs.RowListMoves.{off_unlinked_there, freed_off}
use Rattle.entry_slots.proofs.slots.EntrySlots.free.Goals as goal

pub free_unlinked-requires-clause-there : goal.free_unlinked-requires-clause-there
free_unlinked-requires-clause-there g c =
    subst (λ (x : Entries). has_place c.args.at x.unlinked ≡ true) (sym c.take_off.ensures.off)
    (off_unlinked_there (entries c.args.self.now) c.requires.stand c.args.at c.requires.there)

pub returns-clause-freed : goal.returns-clause-freed
returns-clause-freed g c =
    c.free_unlinked.ensures.freed ∙ (ap (freed_at c.args.at) c.take_off.ensures.off ∙ freed_off c.args.at (entries c.args.self.now))
