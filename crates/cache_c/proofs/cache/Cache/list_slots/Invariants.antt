use Rattle.std.proofs.Common.{◌≡◌, ℕ, ◌+◌, ◌-◌, ◌<◌, ◌≤◌, length, drop}
use Rattle.cache_core.specs.CoreCache.{cache_of}
use Rattle.cache_c.specs.Standing.{StandsUnchanged, cache_words}
use Rattle.cache_c.specs.Told.{IsWholeList, rows_of, rows_from}
use Rattle.cache_c.proofs.cache.Cache.list_slots.Given as goal

abbrev pub invariant-loop-slot : goal.invariant-loop-slot
invariant-loop-slot l = record {
  lists : (i : ℕ) → l.from + i < l.slot
      → IsWholeList (cache_words l.fn.self) (cache_of l.fn.self.core) (l.from + i) (drop (rows_from (cache_of l.fn.self.core) l.from i) l.out) (length (rows_of (cache_of l.fn.self.core) (l.from + i)));
  count : l.count ≡ rows_from (cache_of l.fn.self.core) l.from (l.slot - l.from);
  fits : l.count ≤ length l.out;
  len : length l.out ≡ length l.fn.out;
  low : l.from ≤ l.slot;
  high : l.slot - l.from ≤ l.to - l.from;
  same : StandsUnchanged l.fn.self l.self;
}
