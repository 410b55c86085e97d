use Rattle.std.proofs.Common.{◌<◌, arith, sym, ap, ◌∙◌}
use Rattle.std.specs.Prelude.{sum_by}
use Rattle.seg_words.specs.declared.gaps.Extent.{Extent}
use Rattle.plain_cache.proofs.Gaps.{run_goes_on_below, sum-reverse}
use Rattle.plain_cache.proofs.infos.gaps_beside.Goals as goal

pub loop-i-preserved : goal.loop-i-preserved
loop-i-preserved c =
    let i = c.loop-i.invariant in
    let low : c.loop-i.i < c.args.conf.words = omega (arith, c.loop-i-test.true, c.saturating_sub-i-end.ensures) in
    record {
      gaps = c.in_ok-free.ensures.gaps ∙ run_goes_on_below c.piece-piece.result c.args.extents.now c.args.conf.words c.loop-i.i _ low i.gaps;
      free = c.in_ok-free.ensures.free;
      few = omega (arith, i.few, c.in_ok-free.ensures.few);
    }

pub returns-clause-words : goal.returns-clause-words
returns-clause-words c =
    c.loop-i.invariant.free ∙ sym (sum-reverse c.loop-i.gaps.items)
    ∙ sym (ap (sum_by (λ (gap : Extent). gap.size)) c.reverse.ensures.items)
