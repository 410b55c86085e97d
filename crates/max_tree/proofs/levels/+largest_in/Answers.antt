use Rattle.std.proofs.Common.{take, refl, ◌∙◌}
use Rattle.max_tree.proofs.Rows.{parts_of}
use Rattle.max_tree.proofs.PageLemmas.{largest_top}
use Rattle.max_tree.proofs.LevelLemmas.{level_rows}
use Rattle.max_tree.proofs.levels.+largest_in.Goals as goal

pub returns : goal.returns
returns t c =
    let xs = c.args.levels.now in
    let parts = parts_of level_rows c.args.above c.args.count c.page_count.result xs (take c.args.count xs) c.split_at.result.1.now c.requires c.if-above-eq0.false c.page_count.ensures refl c.split_at.ensures.back in
    c.largest_in.ensures ∙ largest_top (take c.args.count xs) (take c.page_count.result c.split_at.result.1.now) parts.1.tops_are
