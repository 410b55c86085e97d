-- What the crates below promise of all words and rows: see their public laws.
use Rattle.std.specs.Prelude.{List, ℕ}
use Rattle.seg_words.specs.Windows.{Aside}
use Rattle.sma_blocks.specs.declared.sma.Sma.{Sma}
use Rattle.sma_blocks.specs.Ready.{IsReady, ChangesInner, Stays}
use Rattle.value_image.specs.Laws.{BytesArePacked, ImagesAreRuns, RunsAreWritten, RunsStand}
use Rattle.apcu_model.specs.Laws.{RowsStayApart}

pub record Laws : Type 0 where
  -- blocks are unchanged when words inside them change
  pub blocks : (sma : Sma) (old new : List ℕ) (aside : Aside) → IsReady sma old aside
      → ChangesInner sma old new aside → Stays sma old new aside
  pub rows : RowsStayApart
  pub images : ImagesAreRuns
  pub runs : RunsStand
  pub written : RunsAreWritten
  pub packed : BytesArePacked
