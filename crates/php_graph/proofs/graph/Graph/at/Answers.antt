use Rattle.std.proofs.Common.{◌∙◌, ◌<◌, ◌-◌, arith, ap, zero-add, length, ℕ, List, get_or}
use Rattle.php_graph.specs.declared.kind.Kind.{Kind}
use Rattle.php_graph.specs.Size.{offset_of}
use Rattle.php_graph.specs.PlaceOffsets.{kinds_of}
use Rattle.php_graph.proofs.SizeLemmas.{get_or-offsets_from}
use Rattle.php_graph.proofs.graph.Graph.at.Goals as goal

pub returns : goal.returns
returns c =
    let g = kinds_of c.self.inside.places in
    let in_range : c.args.k - 1 < length g = omega (arith, ap length c.self.view_is) in
    c.at.ensures ∙ ap (λ (os : List ℕ). get_or os (c.args.k - 1) 0) c.self.invariant.offsets_are
    ∙ get_or-offsets_from 0 g (c.args.k - 1) 0 in_range ∙ zero-add _ ∙ ap (λ (g : List Kind). offset_of g c.args.k) c.self.view_is
