use Rattle.std.proofs.Common.{◌≡◌, ◌⊎◌, ℕ, ◌%◌, ◌<◌, ◌≤◌, true, false, length, slice_index}
use Rattle.seg_words.specs.Kept.{KeptBeside}
use Rattle.seg_words.specs.Blocks.{MayStore}
use Rattle.sma_blocks.specs.Tiles.{tiles}
use Rattle.sma_blocks.specs.Live.{lives}
use Rattle.sma_blocks.specs.LaidGaps.{IsLaid}
use Rattle.sma_blocks.proofs.sma.Sma.lay.Given as goal

abbrev pub invariant-loop-end : goal.invariant-loop-end
invariant-loop-end g l = record {
  laid : IsLaid l.initial.self.bounds.piece (g.S.WordsIn.words l.seg) l.end l.self.sizes l.self.head l.self.free false;
  more : l.first < l.end → IsLaid l.initial.self.bounds.piece (g.S.WordsIn.words l.seg) l.end l.self.sizes l.self.head l.self.free true;
  blocks : lives (tiles (g.S.WordsIn.words l.seg) l.end) ≡ lives (tiles (g.S.WordsIn.words l.initial.seg) l.last);
  same : (i : ℕ) → (i < l.first) ⊎ (l.last ≤ i) → slice_index (g.S.WordsIn.words l.seg) i ≡ slice_index (g.S.WordsIn.words l.initial.seg) i;
  apart : (i : ℕ) → l.first ≤ i → i < l.end → MayStore (g.S.WordsIn.words l.seg) (g.S.WordsIn.aside l.initial.seg).windows i;
  words : length (g.S.WordsIn.words l.seg) ≡ length (g.S.WordsIn.words l.initial.seg);
  count : length l.self.sizes ≡ length l.initial.self.sizes;
  bounds : l.self.bounds ≡ l.initial.self.bounds;
  low : l.first ≤ l.end;
  high : l.end ≤ l.last;
  even : l.end % 2 ≡ 0;
  beside : KeptBeside g.S.WordsIn l.initial.seg l.seg;
}

abbrev pub decreases-loop-end : goal.decreases-loop-end
decreases-loop-end g l = l.end
