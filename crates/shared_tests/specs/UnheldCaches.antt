-- A cache of which nothing is held.
use Rattle.std.specs.Prelude.{◌≡◌, ℕ, false, List, replicate}
use Rattle.seg_words.specs.declared.segment.WordsIn.{Ghosts}
use Rattle.seg_words.specs.Windows.{is_named}
use Rattle.cache_core.specs.declared.cache.Core.{Core}
use Rattle.cache_core.specs.CoreCache.{CacheStands}

-- the words represent the cache, nothing is held for any worker, and no window is open
pub record Rests {X : Type 0} (g : Ghosts X (List ℕ)) (core : Core) (words : X) : Type 0 where
  pub stand : CacheStands g core words
  pub held : g.rest words ≡ replicate 64 0
  pub closed : (at : ℕ) → is_named (g.aside words).windows at ≡ false
