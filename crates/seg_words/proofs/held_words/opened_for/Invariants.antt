use Rattle.std.proofs.Common.{◌≡◌, length, take, drop, ◌++◌}
use Rattle.seg_words.specs.EventWindows.{opened_for}
use Rattle.seg_words.proofs.held_words.opened_for.Given as goal

abbrev pub invariant-loop-worker : goal.invariant-loop-worker
invariant-loop-worker l = record {
  count : length l.windows ≡ 64;
  opened : opened_for l.mask l.held ≡ take l.worker l.windows ++ opened_for l.left (drop l.worker l.held);
}
