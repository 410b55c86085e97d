use Rattle.std.proofs.Common.{ℕ, List, sym, slice_index, subst}
use Rattle.std.specs.List.{All}
use Rattle.seg_words.specs.declared.gaps.Extent.{Extent}
use Rattle.sma_blocks.specs.Live.{IsLive}
use Rattle.block_tests.proofs.listed.keep_listed.Goals as goal

pub keep-requires-clause-live : goal.keep-requires-clause-live
keep-requires-clause-live g c = λ i low.
    let live = subst (λ (xs : List ℕ). All (IsLive c.args.blocks.now) xs) (sym c.as_slice.ensures.value) c.in_ok-places.ensures.live in
    subst (λ (bs : List Extent). IsLive bs (slice_index c.as_slice.result.now i)) c.requires.listed (live i 0 low)
