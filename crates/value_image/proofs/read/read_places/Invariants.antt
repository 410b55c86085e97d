use Rattle.std.proofs.Common.{◌-◌, ◌∷◌, List}
use Rattle.php_graph.specs.declared.kind.Kind.{Kind}
use Rattle.php_graph.specs.PlaceOffsets.{kinds_at, offsets_at}
use Rattle.seg_words.specs.Kept.{Kept}
use Rattle.value_image.specs.Image.{IsImageOf}
use Rattle.value_image.proofs.ImageWalk.{IsWalkTo}
use Rattle.value_image.proofs.read.read_places.Given as goal

abbrev pub invariant-loop-offset : goal.invariant-loop-offset
invariant-loop-offset g l = record {
  places : (graph : List Kind) → IsImageOf (g.W.WordsIn.words l.initial.from) l.at l.len graph → IsWalkTo (l.first ∷ kinds_at l.others.items) (0 ∷ offsets_at l.others.items) l.offset graph;
  kept : Kept g.W.WordsIn l.initial.from l.from;
}

abbrev pub decreases-loop-offset : goal.decreases-loop-offset
decreases-loop-offset g l = l.len - l.offset
