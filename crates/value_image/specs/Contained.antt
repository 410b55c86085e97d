-- The graph that the content of an image represents.
use Rattle.std.specs.Prelude.{List, [], ◌∷◌}
use Rattle.php_graph.specs.declared.kind.Kind.{Kind}
use Rattle.php_graph.specs.declared.kind.Kind.TheVariants as kinds
use Rattle.value_image.specs.declared.contents.Content.{Content}
use Rattle.value_image.specs.declared.contents.Content.TheVariants as contents

-- a graph as it is, and of a scalar or a byte string the graph that has it as its only place
abbrev pub graph_of : Content → List Kind
graph_of (contents.Graph g) = g.now
graph_of (contents.Text bytes) = kinds.Str bytes.now ∷ []
graph_of contents.Null = kinds.Null ∷ []
graph_of (contents.Bool truth) = kinds.Bool truth ∷ []
graph_of (contents.Int number) = kinds.Int number ∷ []
