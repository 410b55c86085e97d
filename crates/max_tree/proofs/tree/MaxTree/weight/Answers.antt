use Rattle.std.proofs.Common.{◌≡◌, ℕ, ◌+◌, ◌/◌, length, ap, rules, arith}
use Rattle.max_tree.proofs.Rows.{front_count, rows_room, rows_most}
use Rattle.max_tree.proofs.LevelLemmas.{level_rows}
use Rattle.max_tree.proofs.tree.MaxTree.weight.Goals as goal

pub returns-clause-most : goal.returns-clause-most
returns-clause-most c =
    let tree = c.self.inside in
    let all = tree.levels.items in
    let long : c.len.result ≡ length all = search rules in
    let most = rows_most level_rows (λ (n : ℕ). n + n / 16) (λ n. omega arith) (λ n many. omega arith) tree.above tree.count all c.self.invariant.1 in
    omega (arith, long, most, front_count all tree.count (rows_room level_rows tree.above tree.count all c.self.invariant.1), ap length c.self.view_is)
