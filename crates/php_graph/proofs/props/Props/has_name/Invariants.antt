use Rattle.std.proofs.Common.{◌≡◌, map, drop}
use Rattle.php_graph.specs.declared.key.Key.TheVariants.{Str}
use Rattle.php_graph.specs.Graph.{holds_key}
use Rattle.php_graph.proofs.props.Props.has_name.Given as goal

-- the rest has it if all have it
abbrev pub invariant-loop-item : goal.invariant-loop-item
invariant-loop-item l = holds_key (map (λ p. Str p.0) (drop l.item-index l.item-items)) (Str l.name) ≡ holds_key (map (λ p. Str p.0) l.self) (Str l.name)
