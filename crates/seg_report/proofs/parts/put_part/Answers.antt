use Rattle.std.proofs.Common.{◌≡◌, ◌∙◌, ◌+◌, ap, refl, arith}
use Rattle.std.specs.Prelude.{nat_le, find, option_map}
use Rattle.sma_blocks.specs.declared.sma.Sma.{Sma}
use Rattle.sma_blocks.specs.Live.{free_runs_in}
use Rattle.entry_slots.specs.Standing.{entries}
use Rattle.seg_report.specs.PartWalks.{pair_of}
use Rattle.seg_report.proofs.GapsFromEdge.{told_ahead}
use Rattle.seg_report.proofs.PartWalkSteps.{gap_bound, gap_edge, over_gap, over_row, row_at, row_listed}
use Rattle.seg_report.proofs.parts.put_part.Goals as goal

pub overflow_add-at : goal.overflow_add-at
overflow_add-at g c =
    let ready = c.requires.stand.ready in
    omega (arith, gap_bound (g.S.WordsIn.words c.args.seg.now) (entries c.args.slots.now) c.args.slots.now.sma.bounds.from c.args.at c.args.gap c.requires.here c.requires.low c.size_if_at-free.result c.size_if_at-free.ensures c.if-free-gt0.true, ready.end, ready.short)

pub returns-then-free-gt0-clause-ok : goal.returns-then-free-gt0-clause-ok
returns-then-free-gt0-clause-ok g c =
    let ws = g.S.WordsIn.words c.args.seg.now in
    let s = entries c.args.slots.now in
    let sma = c.args.slots.now.sma in
    let free = c.size_if_at-free.result in
    let at = c.args.at in
    let edge = gap_edge ws s sma.bounds.from at c.args.gap c.requires.here c.requires.low free c.size_if_at-free.ensures c.if-free-gt0.true in
    let next = told_ahead sma ws ws (g.S.WordsIn.aside c.args.seg.now) (at + free) c.gap_from.result c.requires.stand.ready edge refl (c.gap_from.ensures.value ∙ ap (λ (m : Sma). option_map pair_of (find (λ run. nat_le (at + free) run.place) (free_runs_in m.bounds ws))) c.sma.ensures) in
    over_gap ws s sma.bounds.from at c.args.gap c.requires.here c.requires.low free c.args.out.now c.put_pair.new.out c.gap_from.result c.size_if_at-free.ensures c.if-free-gt0.true c.in_ok-put_pair.ensures.ok next

pub put_row-requires-clause-there : goal.put_row-requires-clause-there
put_row-requires-clause-there g c =
    row_listed (g.S.WordsIn.words c.args.seg.now) (entries c.args.slots.now) c.args.slots.now.sma.bounds.from c.args.at c.args.gap c.requires.here c.requires.low c.size_if_at-free.result c.size_if_at-free.ensures (omega (arith, c.if-free-gt0.false))

pub returns-clause-ok : goal.returns-clause-ok
returns-clause-ok g c =
    let ws = g.S.WordsIn.words c.args.seg.now in
    let s = entries c.args.slots.now in
    let free = c.size_if_at-free.result in
    let is = c.size_if_at-free.ensures in
    let none : free ≡ 0 = omega (arith, c.if-free-gt0.false) in
    let r = row_at ws s c.args.slots.now.sma.bounds.from c.args.at c.args.gap c.requires.here c.requires.low free is none in
    let line = c.in_ok-put_row.ensures.line r.row (record { there = r.there; place = r.place }) in
    over_row ws s c.args.slots.now.sma.bounds.from c.args.at c.args.gap c.requires.here c.requires.low free is none c.args.out.now c.put_row.new.out c.in_ok-put_row.field-0 line.0 line.1
