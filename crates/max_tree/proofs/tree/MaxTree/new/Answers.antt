use Rattle.std.proofs.Common.{rules}
use Rattle.max_tree.proofs.Rows.{front_made}
use Rattle.max_tree.proofs.LevelLemmas.{level_rows}
use Rattle.max_tree.proofs.tree.MaxTree.new.Goals as goal

pub returns : goal.returns
returns c =
    let shape = c.shape_for-above in
    front_made level_rows shape.result.0 c.args.count shape.result.1 c.in_ok-levels.levels.items shape.ensures.levels (search rules)
