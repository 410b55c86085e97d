use Rattle.std.proofs.Common.{◌≡◌, ◌≤◌, length, take, drop}
use Rattle.entry_slots.specs.Lists.{first_place}
use Rattle.cache_core.specs.CoreCache.{cache_of}
use Rattle.cache_c.specs.Standing.{StandsUnchanged, cache_words}
use Rattle.cache_c.specs.Told.{rows_of, AreRowsBy}
use Rattle.cache_c.proofs.cache.Cache.list_rows.Given as goal

abbrev pub invariant-loop-i : goal.invariant-loop-i
invariant-loop-i l = record {
  at : l.at ≡ first_place (drop l.i (drop l.skip (rows_of (cache_of l.fn.self.core) l.slot)));
  told : AreRowsBy (cache_words l.fn.self) l.slot (take l.i (drop l.skip (rows_of (cache_of l.fn.self.core) l.slot))) (take l.i l.out);
  others : drop l.i l.out ≡ drop l.i l.fn.out;
  low : l.i ≤ length (drop l.skip (rows_of (cache_of l.fn.self.core) l.slot));
  len : length l.out ≡ length l.fn.out;
  same : StandsUnchanged l.fn.self l.self;
}
