use Rattle.std.proofs.Common.{◌≡◌, ◌≤◌, drop}
use Rattle.entry_slots.specs.Lists.{first_place}
use Rattle.cache_core.specs.CoreCache.{cache_of}
use Rattle.cache_c.specs.Standing.{StandsUnchanged}
use Rattle.cache_c.specs.Told.{rows_of}
use Rattle.cache_c.proofs.cache.Cache.skipped.Given as goal

abbrev pub invariant-loop-passed : goal.invariant-loop-passed
invariant-loop-passed l = record {
  at : l.at ≡ first_place (drop l._passed (rows_of (cache_of l.fn.self.core) l.slot));
  low : l._passed ≤ l.skip;
  same : StandsUnchanged l.fn.self l.self;
}
