use Rattle.std.proofs.Common.{arith}
use Rattle.max_tree.proofs.Rows.{shape_join}
use Rattle.max_tree.proofs.WordLemmas.{word_rows}
use Rattle.max_tree.proofs.words.+shape_for.Goals as goal

pub returns-clause-levels : goal.returns-clause-levels
returns-clause-levels t c =
    let up = c.shape_for-above.result in
    shape_join word_rows up.0 c.word_count.result c.args.count up.1 c.shape_for-above.ensures.levels c.word_count.ensures (omega (arith, c.if-count-le1.false)) c.requires
