use Rattle.std.proofs.Common.{◌≡◌, ◌+◌, sum_by, drop}
use Rattle.php_graph.specs.Size.{key_cells}
use Rattle.php_graph.proofs.members.Members.cells.Given as goal

-- the words so far and those of the rest
abbrev pub invariant-loop-item : goal.invariant-loop-item
invariant-loop-item l = l.cells + sum_by (λ m. 1 + key_cells m.0) (drop l.item-index l.item-items) ≡ sum_by (λ m. 1 + key_cells m.0) l.self
