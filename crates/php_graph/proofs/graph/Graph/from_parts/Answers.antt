use Rattle.std.proofs.Common.{◌∙◌, ◌≤◌, ap, subst, sym, arith, List}
use Rattle.php_graph.specs.declared.kind.Kind.{Kind}
use Rattle.php_graph.specs.Graph.{IsGraph, most_values}
use Rattle.php_graph.specs.MemberCounts.{children_in}
use Rattle.php_graph.specs.PlaceOffsets.{kinds_of, offsets_from}
use Rattle.php_graph.specs.Size.{image_length}
use Rattle.php_graph.proofs.SizeLemmas.{image_short}
use Rattle.php_graph.proofs.graph.Graph.from_parts.Goals as goal

pub lay_out-words-requires : goal.lay_out-words-requires
lay_out-words-requires c = image_short (kinds_of c.args.places) c.requires.graph c.requires.few

pub invariant_of-result : goal.invariant_of-result
invariant_of-result c =
    let same = c.lay_out-words.ensures.kinds in
    let short = image_short (kinds_of c.args.places) c.requires.graph c.requires.few in
    record {
      graph = subst IsGraph (sym same) c.requires.graph;
      offsets_are = c.lay_out-words.ensures.offsets ∙ ap (offsets_from 0) (sym same);
      few = subst (λ (g : List Kind). children_in g ≤ most_values) (sym same) c.requires.few;
      words_are = c.lay_out-words.ensures.words ∙ ap image_length (sym same);
      small = omega (arith, short, c.lay_out-words.ensures.words);
    }
