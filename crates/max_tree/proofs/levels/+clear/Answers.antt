use Rattle.std.proofs.Common.{length, sym, arith}
use Rattle.max_tree.proofs.Rows.{front_count}
use Rattle.max_tree.proofs.LevelLemmas.{tops_room, zeros_join}
use Rattle.max_tree.proofs.levels.+clear.Goals as goal

pub slice_bounds-clear_pages-end : goal.slice_bounds-clear_pages-end
slice_bounds-clear_pages-end t c =
    omega (arith, c.page_count-pages.ensures, tops_room c.args.above c.args.count c.args.levels.now c.split_at_mut-numbers.result.1.now c.requires c.if-above-eq0.false c.split_at_mut-numbers.ensures.back)

pub slice_bounds-clear_pages-end-2 : goal.slice_bounds-clear_pages-end-2
slice_bounds-clear_pages-end-2 t c =
    sym (front_count c.split_at_mut-numbers.result.1.now c.page_count-pages.result (omega (arith, c.page_count-pages.ensures, tops_room c.args.above c.args.count c.args.levels.now c.split_at_mut-numbers.result.1.now c.requires c.if-above-eq0.false c.split_at_mut-numbers.ensures.back)))

pub returns : goal.returns
returns t c =
    let parts = c.split_at_mut-numbers in
    zeros_join c.clear_pages.new.numbers c.clear.new.levels (length c.args.levels.now) (length parts.result.0.now) (length parts.result.1.now) c.clear_pages.ensures.count c.clear_pages.ensures.zeros c.clear.ensures (omega (arith, parts.ensures.front_len, parts.ensures.back_len))
