use Rattle.std.proofs.Common.{◌≡◌, ◌≤◌, ◌%◌, true, length}
use Rattle.seg_words.specs.Kept.{KeptBeside}
use Rattle.sma_blocks.specs.Live.{live_blocks}
use Rattle.sma_blocks.proofs.KeptBlocks.{Laid, Spread}
use Rattle.sma_blocks.proofs.sma.Sma.keep.Given as goal

abbrev pub invariant-loop-i : goal.invariant-loop-i
invariant-loop-i g l = record {
  laid : Laid l.initial.self.bounds.piece (g.S.WordsIn.words l.initial.seg) (g.S.WordsIn.words l.seg) (g.S.WordsIn.aside l.initial.seg) l.places l.initial.self.bounds.from l.end l.self.sizes l.self.head l.self.free true;
  spread : Spread l.places (live_blocks (g.S.WordsIn.words l.initial.seg) l.initial.self.bounds.from) l.i l.end;
  bounds : l.self.bounds ≡ l.initial.self.bounds;
  count : length l.self.sizes ≡ length l.initial.self.sizes;
  within : l.i ≤ length l.places;
  low : l.initial.self.bounds.from ≤ l.end;
  even : l.end % 2 ≡ 0;
  beside : KeptBeside g.S.WordsIn l.initial.seg l.seg;
}

abbrev pub decreases-loop-i : goal.decreases-loop-i
decreases-loop-i g l = l.i
