use Rattle.std.proofs.Common.{◌+◌, ◌∙◌, arith}
use Rattle.php_graph.specs.Size.{key_cells, offset_of}
use Rattle.value_image.specs.Image.{member_words}
use Rattle.value_image.proofs.ItemRuns.{item_may_write, item_written, cells-more}
use Rattle.value_image.proofs.Lengths.{length-member_words}
use Rattle.value_image.proofs.write_members.put_members.Goals as goal

pub put_member-next-requires-clause-place : goal.put_member-next-requires-clause-place
put_member-next-requires-clause-place g c = c.requires.places c.loop-i.i _ c.at-child.ensures

pub put_member-next-requires-clause-apart : goal.put_member-next-requires-clause-apart
put_member-next-requires-clause-apart g c =
    item_may_write (member_words (offset_of c.args.g.now)) (λ m. 1 + key_cells m.0) (length-member_words (offset_of c.args.g.now)) _ _ _ c.args.members.now c.loop-i.i _ _ _ _ c.requires.apart c.at-child.ensures c.loop-i.invariant.words c.loop-i.invariant.beside.aside c.loop-i.invariant.next

pub loop-i-preserved : goal.loop-i-preserved
loop-i-preserved g c = record {
  words = item_written (member_words (offset_of c.args.g.now)) (λ m. 1 + key_cells m.0) (length-member_words (offset_of c.args.g.now)) _ _ c.args.members.now c.loop-i.i _ _ _ _ c.at-child.ensures c.loop-i.invariant.words c.put_member-next.ensures.words c.loop-i.invariant.next;
  next = omega (arith, cells-more (λ m. 1 + key_cells m.0) c.args.members.now c.loop-i.i _ c.at-child.ensures);
  beside = record { aside = c.put_member-next.ensures.beside.aside ∙ c.loop-i.invariant.beside.aside; rest = c.put_member-next.ensures.beside.rest ∙ c.loop-i.invariant.beside.rest };
}
