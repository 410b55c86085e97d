use Rattle.seg_words.specs.Kept.{Kept}
use Rattle.sma_blocks.proofs.FirstGaps.{IsPassed}
use Rattle.sma_blocks.proofs.sma.Sma.near_fit.Given as goal

abbrev pub invariant-gaps : goal.invariant-gaps
invariant-gaps g l = record {
  passed : IsPassed l.self.sizes l.n l.before;
  kept : Kept g.S.WordsIn l.fn.seg l.seg;
}
