use Rattle.std.proofs.Common.{◌≡◌, ◌+◌, take, sum_by}
use Rattle.std.specs.List.{flat_map}
use Rattle.php_graph.specs.Size.{cells_of}
use Rattle.seg_words.specs.Kept.{KeptBeside}
use Rattle.value_image.specs.Rows.{written}
use Rattle.value_image.specs.Image.{place_words}
use Rattle.value_image.proofs.write.persist.Given as goal

abbrev pub invariant-loop-i : goal.invariant-loop-i
invariant-loop-i g l = record {
  words : g.S.WordsIn.words l.seg ≡ written (g.S.WordsIn.words l.initial.seg) l.at (flat_map (place_words l.g) (take l.i l.g));
  next : l.next ≡ l.at + sum_by cells_of (take l.i l.g);
  beside : KeptBeside g.S.WordsIn l.initial.seg l.seg;
}
