use Rattle.std.proofs.Common.{map, take}
use Rattle.php_graph.specs.declared.key.Key.TheVariants.{Str}
use Rattle.php_graph.specs.Keys.{HasMarks}
use Rattle.php_graph.proofs.props.Props.mark_set.Given as goal

-- the set has the marks of the names so far
abbrev pub invariant-loop-item : goal.invariant-loop-item
invariant-loop-item l = HasMarks (map (λ p. Str p.0) (take l.item-index l.item-items)) l.marks
