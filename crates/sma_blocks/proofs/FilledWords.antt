-- What holds of words that blocks and gaps fill, whatever the allocator keeps besides them.
use Rattle.std.proofs.Common.{◌≡◌, ℕ, List, length}
use Rattle.seg_words.specs.Windows.{Aside}
use Rattle.sma_blocks.specs.declared.bounds.Bounds.{Bounds}
use Rattle.sma_blocks.specs.declared.sma.Sma.{Sma}
use Rattle.sma_blocks.specs.Tiles.{IsFormatted}
use Rattle.sma_blocks.specs.Live.{live_blocks}
use Rattle.sma_blocks.specs.Ready.{NameLive, IsReady}

-- the words are blocks and gaps, and every window names a live block
pub record IsFilled (bounds : Bounds) (words : List ℕ) (aside : Aside) : Type 0 where
  pub end : bounds.to ≡ length words
  pub formatted : IsFormatted words bounds.from bounds.piece
  pub windows : NameLive words aside.windows (live_blocks words bounds.from)

pub filled_of : {sma : Sma} {words : List ℕ} {aside : Aside} → IsReady sma words aside → IsFilled sma.bounds words aside
filled_of {sma} {words} {aside} h = record { end = h.end; formatted = h.formatted; windows = h.windows }
