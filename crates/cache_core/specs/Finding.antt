-- What a look-up needs of words, and of what is known besides them.
use Rattle.std.specs.Prelude.{◌≡◌, ℕ, List, length}
use Rattle.seg_words.specs.declared.segment.WordsIn.{Ghosts}
use Rattle.apcu_model.specs.SlotOrder.{slot_of}
use Rattle.entry_slots.specs.declared.finding.Finder.{Finder}
use Rattle.cache_core.specs.declared.cache.Core.{Core}
use Rattle.cache_core.specs.CoreCache.{CacheStands, cache_of}

-- The words represent the cache, the finder has the number of its slots and of its rows, and this
-- is the slot of the key.
pub record FindsLive {X R : Type 0} (g : Ghosts X R) (core : Core) (finder : Finder) (seg : X)
    (key : List ℕ) (slot : ℕ) : Type 0 where
  pub stand : CacheStands g core seg
  pub slots : finder.slots ≡ core.conf.slots
  pub rows : finder.rows ≡ length (cache_of core).rows
  pub slot_is : slot ≡ slot_of core.conf key
