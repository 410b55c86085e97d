use Rattle.std.proofs.Common.{◌≡◌, ◌+◌, ◌-◌, ◌≤◌, length}
use Rattle.seg_words.specs.Kept.{Kept}
use Rattle.sma_blocks.specs.Live.{gaps}
use Rattle.sma_blocks.specs.Tiles.{tiles}
use Rattle.sma_blocks.specs.Walk.{IsEdge}
use Rattle.seg_report.specs.Fits.{blocks_in}
use Rattle.seg_report.proofs.gaps.count_gaps.Given as goal

abbrev pub invariant-loop-place : goal.invariant-loop-place
invariant-loop-place g l = record {
  edge : IsEdge (g.S.WordsIn.words l.fn.seg) l.sma.bounds.from l.at;
  blocks_are : l.blocks + blocks_in l.n (gaps (tiles (g.S.WordsIn.words l.fn.seg) l.at))
      ≡ blocks_in l.n (gaps (tiles (g.S.WordsIn.words l.fn.seg) l.sma.bounds.from));
  gaps_are : l.gaps + length (gaps (tiles (g.S.WordsIn.words l.fn.seg) l.at))
      ≡ length (gaps (tiles (g.S.WordsIn.words l.fn.seg) l.sma.bounds.from));
  few : l.blocks ≤ l.at;
  low : l.gaps ≤ l.at;
  kept : Kept g.S.WordsIn l.fn.seg l.seg;
}

abbrev pub decreases-loop-place : goal.decreases-loop-place
decreases-loop-place g l = length (g.S.WordsIn.words l.fn.seg) - l.at
