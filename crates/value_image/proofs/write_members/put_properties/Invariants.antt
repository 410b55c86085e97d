use Rattle.std.proofs.Common.{◌≡◌, ◌+◌, take, sum_by, length}
use Rattle.std.specs.List.{flat_map}
use Rattle.seg_words.specs.Layout.{words_in}
use Rattle.php_graph.specs.Size.{offset_of}
use Rattle.seg_words.specs.Kept.{KeptBeside}
use Rattle.value_image.specs.Rows.{written}
use Rattle.value_image.specs.Image.{property_words}
use Rattle.value_image.proofs.write_members.put_properties.Given as goal

abbrev pub invariant-loop-i : goal.invariant-loop-i
invariant-loop-i g l = record {
  words : g.S.WordsIn.words l.seg ≡ written (g.S.WordsIn.words l.initial.seg) l.at (flat_map (property_words (offset_of l.g)) (take l.i l.props));
  next : l.next ≡ l.at + sum_by (λ p. 2 + words_in (length p.0)) (take l.i l.props);
  beside : KeptBeside g.S.WordsIn l.initial.seg l.seg;
}
