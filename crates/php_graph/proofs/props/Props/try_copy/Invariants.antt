use Rattle.std.proofs.Common.{◌≡◌, ◌++◌, drop}
use Rattle.php_graph.proofs.props.Props.try_copy.Given as goal

-- the copies so far and the rest
abbrev pub invariant-loop-item : goal.invariant-loop-item
invariant-loop-item l = l.items.items ++ drop l.item-index l.item-items ≡ l.self
