use Rattle.std.proofs.Common.{◌≡◌, ◌++◌, drop, length}
use Rattle.std.specs.Option.{option_map}
use Rattle.php_graph.specs.Graph.{lowered_members}
use Rattle.php_graph.proofs.members.Members.lowered.Given as goal

-- the lowered ones so far and those of the rest
abbrev pub invariant-loop-item : goal.invariant-loop-item
invariant-loop-item l = (length l.items.items ≡ l.item-index) × (option_map (λ rest. l.items.items ++ rest) (lowered_members l.by (drop l.item-index l.item-items)) ≡ lowered_members l.by l.self)
