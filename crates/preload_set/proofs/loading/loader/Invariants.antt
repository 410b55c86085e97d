use Rattle.std.proofs.Common.{◌≡◌, ◌++◌, length, drop}
use Rattle.preload_set.specs.Loader.{loader_of}
use Rattle.preload_set.proofs.loading.loader.Given as goal

abbrev pub invariant-loop-i : goal.invariant-loop-i
invariant-loop-i l = record {
  whole : l.script ++ loader_of (drop l.i l.bundle) ≡ loader_of l.bundle;
  count : length l.script ≡ l.i;
}
