-- The free runs are the gaps.
use Rattle.std.proofs.Common.{◌≡◌, ℕ, List, length, ap, ◌∙◌}
use Rattle.seg_words.specs.Windows.{Aside}
use Rattle.seg_words.specs.Gaps.{free_runs}
use Rattle.sma_blocks.specs.declared.bounds.Bounds.{Bounds}
use Rattle.sma_blocks.proofs.FilledWords.{IsFilled}
use Rattle.sma_blocks.specs.Tiles.{tiles}
use Rattle.sma_blocks.specs.Live.{gaps, live_blocks, free_runs_in}
use Rattle.sma_blocks.proofs.FreeRuns.{free_runs-gaps}

pub free_runs_of : (bounds : Bounds) (ws : List ℕ) (aside : Aside) → IsFilled bounds ws aside → free_runs_in bounds ws ≡ gaps (tiles ws bounds.from)
free_runs_of bounds ws aside h =
    ap (λ x. free_runs bounds.from x bounds.piece (live_blocks ws bounds.from)) h.end ∙ free_runs-gaps bounds.piece ws bounds.from (tiles ws bounds.from) (length ws) h.formatted.full h.formatted.merged h.formatted.whole
