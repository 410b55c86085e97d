use Rattle.std.proofs.Common.{◌≡◌, map, drop}
use Rattle.php_graph.specs.Graph.{holds_key}
use Rattle.php_graph.proofs.members.Members.has_key.Given as goal

-- the rest has it if all have it
abbrev pub invariant-loop-item : goal.invariant-loop-item
invariant-loop-item l = holds_key (map (λ m. m.0) (drop l.item-index l.item-items)) l.key ≡ holds_key (map (λ m. m.0) l.self) l.key
