use Rattle.std.proofs.Common.{sym, subst, arith}
use Rattle.entry_slots.specs.declared.slots.EntrySlots.{EntrySlots}
use Rattle.entry_slots.specs.Standing.{entries}
use Rattle.apcu_iter.proofs.RowTotals.{totals_are, totals_told}
use Rattle.apcu_iter.proofs.RowBounds.{AreFew, are_few}
use Rattle.apcu_iter.proofs.summing.totals.Goals as goal

pub overflow_mul-result : goal.overflow_mul-result
overflow_mul-result g c =
    let core = c.args.core.now in
    let few = are_few core.slots (g.S.WordsIn.words c.args.seg.now) (g.S.WordsIn.aside c.args.seg.now) (entries core.slots) c.requires.stand.stand in
    let same = subst (λ (e : EntrySlots). AreFew (entries e).conf.words (entries e).rows (entries e).removed) (sym c.slots-slots.ensures.value) few in
    let are = totals_are (entries c.slots-slots.result.now) c.in_ok-test.test c.args.list c.in_ok-sums.sums same c.in_ok-sums.ensures.sums in
    omega (arith, are.small)

pub returns-clause-totals : goal.returns-clause-totals
returns-clause-totals g c =
    let core = c.args.core.now in
    let few = are_few core.slots (g.S.WordsIn.words c.args.seg.now) (g.S.WordsIn.aside c.args.seg.now) (entries core.slots) c.requires.stand.stand in
    let same = subst (λ (e : EntrySlots). AreFew (entries e).conf.words (entries e).rows (entries e).removed) (sym c.slots-slots.ensures.value) few in
    let are = totals_are (entries c.slots-slots.result.now) c.in_ok-test.test c.args.list c.in_ok-sums.sums same c.in_ok-sums.ensures.sums in
    totals_told core c.slots-slots.result.now c.in_ok-test.test c.args.search.now c.args.list c.args.t c.in_ok-sums.sums c.slots-slots.ensures.value c.in_ok-test.ensures are
