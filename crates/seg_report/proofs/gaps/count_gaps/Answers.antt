use Rattle.std.proofs.Common.{◌∙◌, ◌+◌, length, ap, sym, arith}
use Rattle.std.proofs.Math.Nat as nat
use Rattle.seg_words.specs.declared.gaps.Extent.{Extent}
use Rattle.sma_blocks.specs.Live.{gaps}
use Rattle.sma_blocks.specs.Tiles.{tiles}
use Rattle.sma_blocks.proofs.FilledWords.{filled_of}
use Rattle.sma_blocks.proofs.FilledFreeRuns.{free_runs_of}
use Rattle.seg_report.specs.Fits.{blocks_in}
use Rattle.seg_report.proofs.GapsFromEdge.{gap_ahead, none_ahead, told_ahead}
use Rattle.seg_report.proofs.FitCounts.{blocks-cons}
use Rattle.seg_report.proofs.gaps.count_gaps.Goals as goal

pub overflow_add-blocks : goal.overflow_add-blocks
overflow_add-blocks g c =
    let ws = g.S.WordsIn.words c.args.seg.now in
    let i = c.loop-place.invariant in
    let next = gap_ahead ws c.args.sma.now.bounds.from c.loop-place.at c.in-Some.place c.in-Some.size i.edge (sym c.in-Some.is ∙ told_ahead c.args.sma.now ws (g.S.WordsIn.words c.loop-place.seg) (g.S.WordsIn.aside c.args.seg.now) c.loop-place.at c.gap_from.result c.requires.ready i.edge i.kept.words c.gap_from.ensures.value) in
    omega (arith, i.few, next.up, next.end, c.requires.ready.end, c.requires.ready.short, nat.div-le_self c.in-Some.size c.args.n)

pub overflow_add-at : goal.overflow_add-at
overflow_add-at g c =
    let ws = g.S.WordsIn.words c.args.seg.now in
    let i = c.loop-place.invariant in
    let next = gap_ahead ws c.args.sma.now.bounds.from c.loop-place.at c.in-Some.place c.in-Some.size i.edge (sym c.in-Some.is ∙ told_ahead c.args.sma.now ws (g.S.WordsIn.words c.loop-place.seg) (g.S.WordsIn.aside c.args.seg.now) c.loop-place.at c.gap_from.result c.requires.ready i.edge i.kept.words c.gap_from.ensures.value) in
    omega (arith, next.end, c.requires.ready.end, c.requires.ready.short)

pub loop-place-smaller : goal.loop-place-smaller
loop-place-smaller g c =
    let ws = g.S.WordsIn.words c.args.seg.now in
    let i = c.loop-place.invariant in
    let next = gap_ahead ws c.args.sma.now.bounds.from c.loop-place.at c.in-Some.place c.in-Some.size i.edge (sym c.in-Some.is ∙ told_ahead c.args.sma.now ws (g.S.WordsIn.words c.loop-place.seg) (g.S.WordsIn.aside c.args.seg.now) c.loop-place.at c.gap_from.result c.requires.ready i.edge i.kept.words c.gap_from.ensures.value) in
    omega (arith, next.up, next.some, next.end)

pub loop-place-preserved : goal.loop-place-preserved
loop-place-preserved g c =
    let ws = g.S.WordsIn.words c.args.seg.now in
    let i = c.loop-place.invariant in
    let gap : Extent = record { place = c.in-Some.place; size = c.in-Some.size } in
    let next = gap_ahead ws c.args.sma.now.bounds.from c.loop-place.at c.in-Some.place c.in-Some.size i.edge (sym c.in-Some.is ∙ told_ahead c.args.sma.now ws (g.S.WordsIn.words c.loop-place.seg) (g.S.WordsIn.aside c.args.seg.now) c.loop-place.at c.gap_from.result c.requires.ready i.edge i.kept.words c.gap_from.ensures.value) in
    let behind = gaps (tiles ws (c.in-Some.place + c.in-Some.size)) in
    let less = nat.div-le_self c.in-Some.size c.args.n in
    let seen = c.gap_from.ensures.kept in
    record {
      edge = next.edge;
      blocks_are = omega (arith, i.blocks_are, ap (blocks_in c.args.n) next.gaps_are, blocks-cons c.args.n gap behind);
      gaps_are = omega (arith, i.gaps_are, ap length next.gaps_are);
      few = omega (arith, i.few, next.up, less);
      low = omega (arith, i.low, next.up, next.some);
      kept = record { words = seen.words ∙ i.kept.words; aside = seen.aside ∙ i.kept.aside; rest = seen.rest ∙ i.kept.rest };
    }

pub returns-clause-blocks : goal.returns-clause-blocks
returns-clause-blocks g c =
    let ws = g.S.WordsIn.words c.args.seg.now in
    let i = c.loop-place.invariant in
    let none = none_ahead (gaps (tiles ws c.loop-place.at)) (sym c.in_default.is ∙ told_ahead c.args.sma.now ws (g.S.WordsIn.words c.loop-place.seg) (g.S.WordsIn.aside c.args.seg.now) c.loop-place.at c.gap_from.result c.requires.ready i.edge i.kept.words c.gap_from.ensures.value) in
    let all = free_runs_of c.args.sma.now.bounds ws (g.S.WordsIn.aside c.args.seg.now) (filled_of c.requires.ready) in
    omega (arith, i.blocks_are, ap (blocks_in c.args.n) none) ∙ ap (blocks_in c.args.n) (sym all)

pub returns-clause-gaps : goal.returns-clause-gaps
returns-clause-gaps g c =
    let ws = g.S.WordsIn.words c.args.seg.now in
    let i = c.loop-place.invariant in
    let none = none_ahead (gaps (tiles ws c.loop-place.at)) (sym c.in_default.is ∙ told_ahead c.args.sma.now ws (g.S.WordsIn.words c.loop-place.seg) (g.S.WordsIn.aside c.args.seg.now) c.loop-place.at c.gap_from.result c.requires.ready i.edge i.kept.words c.gap_from.ensures.value) in
    let all = free_runs_of c.args.sma.now.bounds ws (g.S.WordsIn.aside c.args.seg.now) (filled_of c.requires.ready) in
    omega (arith, i.gaps_are, ap length none) ∙ ap length (sym all)
