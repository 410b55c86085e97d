use Rattle.std.proofs.Common.{ℤ, [], ◌∷◌, sym, subst}
use Rattle.std.specs.Int.{w64}
use Rattle.std.proofs.lemmas.Int.{to_z-of_z}
use Rattle.php_graph.specs.declared.kind.Kind.TheVariants as kinds
use Rattle.php_graph.specs.Graph.{IsGraph}
use Rattle.value_image.proofs.SingleScalars.{int_graph}
use Rattle.value_image.proofs.scalars.int_content.Goals as goal

pub returns-clause-graph : goal.returns-clause-graph
returns-clause-graph c =
    subst (λ (n : ℤ). IsGraph (kinds.Int n ∷ [])) (sym (to_z-of_z w64 c.args.number c.ranges.number)) (int_graph c.args.number c.ranges.number)
