use Rattle.std.proofs.Common.{◌∙◌, List, ap}
use Rattle.seg_words.specs.declared.gaps.Extent.{Extent}
use Rattle.sma_blocks.specs.declared.sma.Sma.{Sma}
use Rattle.sma_blocks.specs.Live.{free_runs_in}
use Rattle.entry_slots.specs.declared.slots.EntrySlots.{EntrySlots}
use Rattle.seg_report.specs.Fits.{blocks_in}
use Rattle.seg_report.proofs.CacheTiles.{core_room, core_runs}
use Rattle.seg_report.proofs.room.fits.Goals as goal

pub returns-clause-runs : goal.returns-clause-runs
returns-clause-runs g c =
    let ws = g.S.WordsIn.words c.args.seg.now in
    let runs : Sma → List Extent = λ s. free_runs_in s.bounds ws in
    c.count_gaps-blocks.ensures.blocks
    ∙ ap (λ (m : Sma). blocks_in c.args.n (runs m)) (c.sma.ensures ∙ ap (λ (e : EntrySlots). e.sma) c.slots.ensures.value)
    ∙ ap (blocks_in c.args.n) (core_runs c.args.core.now ws (g.S.WordsIn.aside c.args.seg.now) c.requires.stand)

pub returns-clause-most : goal.returns-clause-most
returns-clause-most g c =
    let ws = g.S.WordsIn.words c.args.seg.now in
    let laws = c.fit_laws.ensures in
    let runs : Sma → List Extent = λ s. free_runs_in s.bounds ws in
    core_room c.args.core.now ws (g.S.WordsIn.aside c.args.seg.now) c.requires.stand laws.parts laws.whole laws.some laws.none c.args.n c.count_gaps-blocks.result.0 c.requires.size.0 c.requires.size.1
    (c.count_gaps-blocks.ensures.blocks
    ∙ ap (λ (m : Sma). blocks_in c.args.n (runs m)) (c.sma.ensures ∙ ap (λ (e : EntrySlots). e.sma) c.slots.ensures.value)
    ∙ ap (blocks_in c.args.n) (core_runs c.args.core.now ws (g.S.WordsIn.aside c.args.seg.now) c.requires.stand))
