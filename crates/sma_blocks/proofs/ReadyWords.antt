-- Words that are ready, from what is known of their parts.
use Rattle.std.proofs.Common.{◌≡◌, ℕ, ◌%◌, ◌^◌, ◌<◌, List, length, sym, subst}
use Rattle.seg_words.specs.declared.gaps.Extent.{Extent}
use Rattle.seg_words.specs.Windows.{Aside}
use Rattle.sma_blocks.specs.declared.sma.Sma.{Sma}
use Rattle.sma_blocks.specs.Tiles.{tiles}
use Rattle.sma_blocks.specs.Live.{gap_words, free_runs_in}
use Rattle.sma_blocks.specs.Index.{IsIndexed}
use Rattle.sma_blocks.specs.Chain.{IsChain, AreLinked}
use Rattle.sma_blocks.specs.Ready.{IsReady}
use Rattle.sma_blocks.proofs.FilledWords.{IsFilled, filled_of}
use Rattle.sma_blocks.proofs.ChainLemmas.{chain_of}
use Rattle.sma_blocks.proofs.FilledFreeRuns.{free_runs_of}

-- the chain tells the free runs
pub ready_chain : {sma : Sma} {words : List ℕ} {aside : Aside} → IsReady sma words aside → IsChain words sma.head (free_runs_in sma.bounds words)
ready_chain {sma} {words} {aside} h =
    subst (λ (runs : List Extent). IsChain words sma.head runs) (sym (free_runs_of sma.bounds words aside (filled_of h)))
    (chain_of words sma.bounds.from (tiles words sma.bounds.from) (length words) sma.head h.formatted.full h.linked)

pub ready_by : (sma : Sma) (words : List ℕ) (aside : Aside) → sma.bounds.to < 2 ^ 31 → sma.bounds.piece % 2 ≡ 0 → IsFilled sma.bounds words aside → IsIndexed words sma.bounds.from sma.sizes → AreLinked words sma.head (tiles words sma.bounds.from) 0 → sma.free ≡ gap_words (tiles words sma.bounds.from) → IsReady sma words aside
ready_by sma words aside short even filled indexed linked counted = record {
  end = filled.end;
  short = short;
  even = even;
  formatted = filled.formatted;
  windows = filled.windows;
  indexed = indexed;
  linked = linked;
  counted = counted;
}

-- words and windows that stayed are as ready
pub ready_kept : {sma : Sma} {words words' : List ℕ} {aside aside' : Aside} → words' ≡ words → aside' ≡ aside → IsReady sma words aside → IsReady sma words' aside'
ready_kept {sma} {words} {words'} {aside} {aside'} same beside h =
    subst (λ (a : Aside). IsReady sma words' a) (sym beside) (subst (λ (xs : List ℕ). IsReady sma xs aside) (sym same) h)
