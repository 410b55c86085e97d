use Rattle.std.proofs.Common.{◌≡◌}
use Rattle.sma_blocks.specs.Live.{live_blocks}
use Rattle.sma_blocks.specs.Ready.{IsReady}
use Rattle.block_tests.proofs.steps.play.Given as goal

abbrev pub invariant-loop-i : goal.invariant-loop-i
invariant-loop-i g l = record {
  ready : IsReady l.sma (g.S.WordsIn.words l.seg) (g.S.WordsIn.aside l.seg);
  listed : l.blocks.items ≡ live_blocks (g.S.WordsIn.words l.seg) l.sma.bounds.from;
  aside : g.S.WordsIn.aside l.seg ≡ g.S.WordsIn.aside l.initial.seg;
}
