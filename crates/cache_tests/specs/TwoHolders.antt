-- A cache of which blocks are held for the workers 0 and 1.
use Rattle.std.specs.Prelude.{◌≡◌, ◌⊎◌, ℕ, ◌≤◌, true, List, slice_index}
use Rattle.seg_words.specs.declared.segment.WordsIn.{Ghosts}
use Rattle.entry_slots.specs.declared.slots.EntrySlots.{EntrySlots}
use Rattle.entry_slots.specs.Lists.{has_place}
use Rattle.entry_slots.specs.Entries.{listed}
use Rattle.entry_slots.specs.Standing.{entries}
use Rattle.cache_core.specs.declared.cache.Core.{Core}
use Rattle.cache_core.specs.CoreCache.{CacheStands}

-- a row or a removed row is at this place, or it is 0
abbrev pub IsRowsPlace : EntrySlots → ℕ → Type 0
IsRowsPlace slots at = (at ≡ 0) ⊎ (has_place at (listed (entries slots)) ≡ true)

-- the words represent the cache, and nothing is held for any other worker
pub record HoldsTwo {X : Type 0} (g : Ghosts X (List ℕ)) (core : Core) (words : X) : Type 0 where
  pub stand : CacheStands g core words
  pub others : (i : ℕ) → 2 ≤ i → slice_index (g.rest words) i ≡ 0
