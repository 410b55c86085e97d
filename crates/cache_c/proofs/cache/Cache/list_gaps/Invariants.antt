use Rattle.std.proofs.Common.{◌≡◌, ◌++◌, ◌≤◌, length, take, drop, map}
use Rattle.apcu_model.specs.Infos.{gaps_of}
use Rattle.cache_core.specs.CoreCache.{cache_of}
use Rattle.cache_info.proofs.GapRuns.{left_from}
use Rattle.cache_c.specs.Standing.{StandsUnchanged}
use Rattle.cache_c.specs.Told.{gap_told}
use Rattle.cache_c.proofs.cache.Cache.list_gaps.Given as goal

abbrev pub invariant-loop-i : goal.invariant-loop-i
invariant-loop-i l = record {
  gaps : take l.i l.out ++ map gap_told (left_from l.from (gaps_of (cache_of l.fn.self.core)))
      ≡ map gap_told (left_from l.fn.from (gaps_of (cache_of l.fn.self.core)));
  others : drop l.i l.out ≡ drop l.i l.fn.out;
  len : length l.out ≡ length l.fn.out;
  low : l.i ≤ length l.out;
  same : StandsUnchanged l.fn.self l.self;
}
