use Rattle.std.proofs.Common.{rules}
use Rattle.max_tree.proofs.Rows.{vec_cleared}
use Rattle.max_tree.proofs.WordLemmas.{word_rows}
use Rattle.max_tree.proofs.bits.BitTree.clear.Goals as goal

pub invariant_of-self : goal.invariant_of-self
invariant_of-self c =
    let tree = c.self.inside in
    (c.self.invariant.0, (vec_cleared word_rows tree.above tree.count tree.words.len tree.words.items c.clear.new.words c.as_mut_slice.result.now c.args.self.now c.self.invariant.1 c.self.view_is c.as_mut_slice.ensures.value (search rules) c.clear.ensures).0)

pub returns : goal.returns
returns c =
    let tree = c.self.inside in
    (vec_cleared word_rows tree.above tree.count tree.words.len tree.words.items c.clear.new.words c.as_mut_slice.result.now c.args.self.now c.self.invariant.1 c.self.view_is c.as_mut_slice.ensures.value (search rules) c.clear.ensures).1
