-- The number of members.
use Rattle.std.specs.Prelude.{ℕ, List, length, sum_by}
use Rattle.php_graph.specs.declared.kind.Kind.{Kind}
use Rattle.php_graph.specs.Graph.{children_of}

-- the members of all containers
abbrev pub children_in : List Kind → ℕ
children_in g = sum_by (λ kind. length (children_of kind)) g
