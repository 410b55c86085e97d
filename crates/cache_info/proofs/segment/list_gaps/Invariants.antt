use Rattle.std.proofs.Common.{◌≡◌, ◌+◌, ◌-◌, ◌≤◌, ◌++◌}
use Rattle.seg_words.specs.Kept.{Kept}
use Rattle.sma_blocks.specs.Live.{free_runs_in}
use Rattle.cache_info.proofs.GapRuns.{left_from}
use Rattle.cache_info.proofs.segment.list_gaps.Given as goal

abbrev pub invariant-loop-place : goal.invariant-loop-place
invariant-loop-place g l = record {
  gaps : l.list.items ++ left_from l.from (free_runs_in l.sma.bounds (g.S.WordsIn.words l.fn.seg))
      ≡ free_runs_in l.sma.bounds (g.S.WordsIn.words l.fn.seg);
  low : l.from ≤ l.sma.bounds.from + (l.sma.bounds.to - l.sma.bounds.from);
  kept : Kept g.S.WordsIn l.fn.seg l.seg;
}

abbrev pub decreases-loop-place : goal.decreases-loop-place
decreases-loop-place g l = l.sma.bounds.from + (l.sma.bounds.to - l.sma.bounds.from) - l.from
