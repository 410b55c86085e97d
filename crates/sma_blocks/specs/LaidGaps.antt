-- How far a walk from the end has laid gaps.
use Rattle.std.specs.Prelude.{◌≡◌, ℕ, ◌+◌, Bool, true, false, List, length, slice_index}
use Rattle.sma_blocks.specs.Tiles.{tiles, Fill, gaps_touch, are_whole}
use Rattle.sma_blocks.specs.Live.{gap_words}
use Rattle.sma_blocks.specs.Index.{size_at}
use Rattle.sma_blocks.specs.Chain.{AreLinked}

-- The words from `end` on are blocks and gaps of segments, the numbers are the sizes of their gaps
-- and nothing else, these gaps are linked from the head on, and their words are counted; if
-- `after_gap` is true, no gap begins at `end` in the segment of the word before.
pub record IsLaid (piece : ℕ) (words : List ℕ) (end : ℕ) (sizes : List ℕ) (head free : ℕ)
    (after_gap : Bool) : Type 0 where
  pub full : Fill words end (tiles words end) (length words)
  pub merged : gaps_touch piece after_gap (tiles words end) ≡ false
  pub whole : are_whole piece (tiles words end) ≡ true
  pub linked : AreLinked words head (tiles words end) 0
  pub told : (i : ℕ) → slice_index sizes i ≡ size_at (tiles words end) (i + i)
  pub counted : free ≡ gap_words (tiles words end)
