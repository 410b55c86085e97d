use Rattle.std.proofs.Common.{rules}
use Rattle.max_tree.proofs.Rows.{vec_cleared}
use Rattle.max_tree.proofs.LevelLemmas.{level_rows}
use Rattle.max_tree.proofs.tree.MaxTree.clear.Goals as goal

pub invariant_of-self : goal.invariant_of-self
invariant_of-self c =
    let tree = c.self.inside in
    (c.self.invariant.0, (vec_cleared level_rows tree.above tree.count tree.levels.len tree.levels.items c.clear.new.levels c.as_mut_slice.result.now c.args.self.now c.self.invariant.1 c.self.view_is c.as_mut_slice.ensures.value (search rules) c.clear.ensures).0)

pub returns : goal.returns
returns c =
    let tree = c.self.inside in
    (vec_cleared level_rows tree.above tree.count tree.levels.len tree.levels.items c.clear.new.levels c.as_mut_slice.result.now c.args.self.now c.self.invariant.1 c.self.view_is c.as_mut_slice.ensures.value (search rules) c.clear.ensures).1
