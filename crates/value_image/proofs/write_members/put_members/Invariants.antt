use Rattle.std.proofs.Common.{◌≡◌, ◌+◌, take, sum_by}
use Rattle.std.specs.List.{flat_map}
use Rattle.php_graph.specs.Size.{key_cells, offset_of}
use Rattle.seg_words.specs.Kept.{KeptBeside}
use Rattle.value_image.specs.Rows.{written}
use Rattle.value_image.specs.Image.{member_words}
use Rattle.value_image.proofs.write_members.put_members.Given as goal

abbrev pub invariant-loop-i : goal.invariant-loop-i
invariant-loop-i g l = record {
  words : g.S.WordsIn.words l.seg ≡ written (g.S.WordsIn.words l.initial.seg) l.at (flat_map (member_words (offset_of l.g)) (take l.i l.members));
  next : l.next ≡ l.at + sum_by (λ m. 1 + key_cells m.0) (take l.i l.members);
  beside : KeptBeside g.S.WordsIn l.initial.seg l.seg;
}
