use Rattle.std.proofs.Common.{arith}
use Rattle.max_tree.proofs.LevelLemmas.{tops_room, top_before, change_stays, change_rises}
use Rattle.max_tree.proofs.levels.+change.Goals as goal

pub bounds-tops-p : goal.bounds-tops-p
bounds-tops-p t c =
    omega (arith, c.requires.inside, tops_room c.args.above c.args.count c.args.levels.now c.split_at_mut-numbers.result.1.now c.requires.levels c.if-above-eq0.false c.split_at_mut-numbers.ensures.back)

pub top_after-new-requires-clause-before : goal.top_after-new-requires-clause-before
top_after-new-requires-clause-before t c =
    let parts = c.split_at_mut-numbers in
    top_before c.args.above c.args.count c.args.levels.now parts.result.1.now c.requires.levels c.if-above-eq0.false parts.ensures.back parts.result.0.now c.args.p c.args.value parts.ensures.front c.requires.inside c.args.old c.requires.old

pub returns-then-new-top-clause-levels : goal.returns-then-new-top-clause-levels
returns-then-new-top-clause-levels t c =
    let parts = c.split_at_mut-numbers in
    change_stays c.args.above c.args.count c.args.levels.now parts.result.1.now c.requires.levels c.if-above-eq0.false parts.ensures.back parts.result.0.now c.args.p c.args.value parts.ensures.front c.requires.inside c.top_after-new.result c.top_after-new.ensures c.if-new-top.true

pub returns-clause-levels : goal.returns-clause-levels
returns-clause-levels t c =
    let parts = c.split_at_mut-numbers in
    change_rises c.args.above c.args.count c.args.levels.now parts.result.1.now c.requires.levels c.if-above-eq0.false parts.ensures.back parts.result.0.now c.args.p c.args.value parts.ensures.front c.requires.inside c.top_after-new.result c.page_count.result c.change.new.levels c.top_after-new.ensures c.page_count.ensures c.change.ensures.levels c.change.ensures.row
