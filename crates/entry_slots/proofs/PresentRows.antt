-- Words that stand for entries with a row at a place.
use Rattle.std.proofs.Common.{◌≡◌, ℕ, true, List, ◌++◌}
use Rattle.seg_words.specs.Windows.{Aside}
use Rattle.entry_slots.specs.declared.slots.EntrySlots.{EntrySlots}
use Rattle.entry_slots.specs.Lists.{has_place}
use Rattle.entry_slots.specs.Entries.{Entries}
use Rattle.entry_slots.specs.Standing.{Stands}

-- they stand for entries of which a row or a removed row has its block at this place
pub record HasEntryAt (e : EntrySlots) (words : List ℕ) (aside : Aside) (at : ℕ) : Type 0 where
  pub entries : Entries
  pub stand : Stands e words aside entries
  pub there : has_place at (entries.rows ++ entries.removed) ≡ true

-- a row has its block at this place
pub record HasRowAt (e : EntrySlots) (words : List ℕ) (aside : Aside) (at : ℕ) : Type 0 where
  pub entries : Entries
  pub stand : Stands e words aside entries
  pub there : has_place at entries.rows ≡ true
