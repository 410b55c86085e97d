-- What a look-up needs of words, and of what is known besides them.
use Rattle.std.specs.Prelude.{◌≡◌, ℕ, ◌<◌, true, length}
use Rattle.seg_words.specs.declared.segment.WordsIn.{Ghosts}
use Rattle.entry_slots.specs.declared.slots.EntrySlots.{EntrySlots}
use Rattle.entry_slots.specs.declared.finding.Finder.{Finder}
use Rattle.entry_slots.specs.Lists.{has_place}
use Rattle.entry_slots.specs.Entries.{listed}
use Rattle.entry_slots.specs.Standing.{Stand, entries}

-- The words represent the entries, of which one has its block at this place.
pub record HasEntry {X R : Type 0} (g : Ghosts X R) (e : EntrySlots) (seg : X) (at : ℕ) : Type 0
  where
    pub stand : Stand g e seg
    pub there : has_place at (listed (entries e)) ≡ true

-- The words represent the entries, which have this slot.
pub record HasSlot {X R : Type 0} (g : Ghosts X R) (e : EntrySlots) (seg : X) (slot : ℕ) : Type 0
  where
    pub stand : Stand g e seg
    pub low : slot < (entries e).conf.slots

-- The words represent the entries, and the finder has the number of their slots and of their rows.
pub record Finds {X R : Type 0} (g : Ghosts X R) (e : EntrySlots) (f : Finder) (seg : X) : Type 0
  where
    pub stand : Stand g e seg
    pub slots : f.slots ≡ (entries e).conf.slots
    pub rows : f.rows ≡ length (entries e).rows
