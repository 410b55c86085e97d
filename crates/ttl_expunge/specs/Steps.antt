-- What a call that drops rows needs of the entries over words, and what it does.
use Rattle.std.specs.Prelude.{◌≡◌, ℕ, Bool, false, List, Option}
use Rattle.seg_words.specs.declared.segment.WordsIn.{Ghosts}
use Rattle.seg_words.specs.Probing.{Met}
use Rattle.seg_words.specs.Windows.{has}
use Rattle.apcu_model.specs.Cache.{Row}
use Rattle.entry_slots.specs.declared.slots.EntrySlots.{EntrySlots}
use Rattle.entry_slots.specs.Standing.{Stand, entries}
use Rattle.ttl_expunge.specs.ProbedRows.{AreRemoved, Sweeps, Drops, Moves}
use Rattle.ttl_expunge.specs.Room.{MakesRoom}

-- Rows may be dropped: the words represent the entries, and only places of removed rows are
-- refused.
pub record MayDropRows {X R : Type 0} (g : Ghosts X R) (slots : EntrySlots) (seg : X)
    : Type 0 where
  pub stand : Stand g slots seg
  pub refused : AreRemoved (g.aside seg) (entries slots).removed

-- Removed rows may be swept: the words represent the entries, and no place is refused.
pub record MaySweepRows {X R : Type 0} (g : Ghosts X R) (slots : EntrySlots) (seg : X)
    : Type 0 where
  pub stand : Stand g slots seg
  pub unrefused : (b : ℕ) → has b (g.aside seg).refused ≡ false

-- The block at this place was probed. The words represent the entries as they are now, and all else
-- in the segment is unchanged.
pub record ProbesBlock {X R : Type 0} (g : Ghosts X R) (new : EntrySlots) (before after : X)
    (at : ℕ) : Type 0 where
  pub met : Met (g.aside before) (g.aside after) at
  pub stand : Stand g new after
  pub rest : g.rest after ≡ g.rest before

-- The same after the removed rows were swept.
pub record SweepsRows {X R : Type 0} (g : Ghosts X R) (old new : EntrySlots) (before after : X)
    : Type 0 where
  pub sweeps : Sweeps (entries old) (entries new) (g.aside before) (g.aside after)
  pub stand : Stand g new after
  pub rest : g.rest after ≡ g.rest before

-- The same after these rows were dropped.
pub record DropsRows {X R : Type 0} (g : Ghosts X R) (old new : EntrySlots) (before after : X)
    (t : ℕ) (gone : List Row) : Type 0 where
  pub drops : Drops (entries old) (entries new) (g.aside before) (g.aside after) t gone
  pub stand : Stand g new after
  pub rest : g.rest after ≡ g.rest before

-- The same after those of these rows that are held were moved to the removed ones.
pub record MovesRows {X R : Type 0} (g : Ghosts X R) (old new : EntrySlots) (before after : X)
    (t : ℕ) (seen : List Row) : Type 0 where
  pub moves : Moves (entries old) (entries new) (g.aside before) (g.aside after) t seen
  pub stand : Stand g new after
  pub rest : g.rest after ≡ g.rest before

-- The same after room was made and the block taken.
pub record MakesRoomIn {X R : Type 0} (g : Ghosts X R) (old new : EntrySlots) (before after : X)
    (n t : ℕ) (place : Option ℕ) (full : Bool) : Type 0 where
  pub made : MakesRoom (entries old) (entries new) (g.aside before) (g.aside after) n t place full
  pub stand : Stand g new after
  pub rest : g.rest after ≡ g.rest before
