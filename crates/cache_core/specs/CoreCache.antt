-- What the words of a segment and a core represent.
use Rattle.std.specs.Prelude.{◌≡◌, ℕ, List}
use Rattle.seg_words.specs.Windows.{Aside}
use Rattle.seg_words.specs.declared.segment.WordsIn.{Ghosts}
use Rattle.apcu_model.specs.Cache.{Cache}
use Rattle.entry_slots.specs.Entries.{entries_of}
use Rattle.entry_slots.specs.Standing.{Stands, entries}
use Rattle.cache_core.specs.declared.cache.Core.{Core}

-- the cache that a core keeps
abbrev pub cache_of : Core → Cache
cache_of core = record {
  conf = core.conf;
  rows = (entries core.slots).rows;
  removed = (entries core.slots).removed;
  next_number = (entries core.slots).next_number;
  hits = core.cache_counts.hits;
  misses = core.cache_counts.misses;
  inserts = core.cache_counts.inserts;
  expunges = core.cache_counts.expunges;
}

-- The words, with what is kept outside them, represent it: no block is loose, and the shape is that
-- of the words.
pub record CoreStands (core : Core) (words : List ℕ) (aside : Aside) : Type 0 where
  pub stand : Stands core.slots words aside (entries core.slots)
  pub whole : entries core.slots ≡ entries_of (cache_of core)

-- the same for those of a segment
abbrev pub CacheStands : {X R : Type 0} → Ghosts X R → Core → X → Type 0
CacheStands g core seg = CoreStands core (g.words seg) (g.aside seg)

-- the same for some words
pub record IsStandingCore (core : Core) : Type 0 where
  pub words : List ℕ
  pub aside : Aside
  pub stand : CoreStands core words aside
