use Rattle.std.proofs.Common.{◌≡◌, ℕ, ◌<◌, true, List, drop, length, slice_index}
use Rattle.seg_words.specs.Kept.{KeptBeside}
use Rattle.entry_slots.specs.Lists.{has_place}
use Rattle.cache_core.specs.CoreCache.{cache_of, CacheStands}
use Rattle.cache_core.specs.Events.{IsStep}
use Rattle.cache_core.specs.Uses.{AreFoundAt}
use Rattle.cache_core.proofs.Fetches.{Left}
use Rattle.cache_core.proofs.cache.Core.count_uses.Given as goal

abbrev pub invariant-loop-i : goal.invariant-loop-i
invariant-loop-i g l = record {
  stand : CacheStands g.S.WordsIn l.self l.seg;
  there : (i : ℕ) → i < length l.fn.places → has_place (slice_index l.fn.places i) (cache_of l.self).rows ≡ true;
  left : (keys : List (List ℕ)) → AreFoundAt keys l.fn.t (cache_of l.fn.self) l.fn.places → Left keys l.fn.t (cache_of l.fn.self) (cache_of l.self) (drop l.i l.fn.places);
  step : IsStep g.S.WordsIn l.fn.self l.self l.fn.seg l.seg;
  beside : KeptBeside g.S.WordsIn l.fn.seg l.seg;
}
