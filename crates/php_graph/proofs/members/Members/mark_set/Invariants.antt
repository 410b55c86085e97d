use Rattle.std.proofs.Common.{map, take}
use Rattle.php_graph.specs.Keys.{HasMarks}
use Rattle.php_graph.proofs.members.Members.mark_set.Given as goal

-- the set has the marks of the keys so far
abbrev pub invariant-loop-item : goal.invariant-loop-item
invariant-loop-item l = HasMarks (map (λ m. m.0) (take l.item-index l.item-items)) l.marks
