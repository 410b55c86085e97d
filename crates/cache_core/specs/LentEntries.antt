-- A core after its entries were lent.
use Rattle.std.specs.Borrow.{Lends, MutBor, Fml}
use Rattle.entry_slots.specs.declared.slots.EntrySlots.{EntrySlots}
use Rattle.entry_slots.specs.contracts.slots.EntrySlots as entries
use Rattle.cache_core.specs.declared.cache.Core.{Core}
use Rattle.cache_core.specs.contracts.cache.Core.{the_row}

-- the core with these entries
abbrev pub with_slots : Core → EntrySlots → Core
with_slots core slots = record core { slots = slots }

-- the core ends with the last entries that r refers to
abbrev pub LendsSlots : MutBor Core → MutBor EntrySlots → Fml
LendsSlots core r = Lends the_row entries.the_row core r (with_slots core.now)
