use Rattle.std.proofs.Common.{arith}
use Rattle.max_tree.proofs.Rows.{shape_join}
use Rattle.max_tree.proofs.LevelLemmas.{level_rows}
use Rattle.max_tree.proofs.levels.+shape_for.Goals as goal

pub returns-clause-levels : goal.returns-clause-levels
returns-clause-levels t c =
    let up = c.shape_for-above.result in
    shape_join level_rows up.0 c.page_count.result c.args.count up.1 c.shape_for-above.ensures.levels c.page_count.ensures (omega (arith, c.if-count-le-PAGE.false)) c.requires
