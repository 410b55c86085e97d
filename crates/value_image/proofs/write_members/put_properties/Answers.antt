use Rattle.std.proofs.Common.{◌+◌, ◌∙◌, arith, length}
use Rattle.seg_words.specs.Layout.{words_in}
use Rattle.php_graph.specs.Size.{offset_of}
use Rattle.value_image.specs.Image.{property_words}
use Rattle.value_image.proofs.ItemRuns.{item_may_write, item_written, cells-more}
use Rattle.value_image.proofs.Lengths.{length-property_words}
use Rattle.value_image.proofs.write_members.put_properties.Goals as goal

pub put_property-next-requires-clause-place : goal.put_property-next-requires-clause-place
put_property-next-requires-clause-place g c = c.requires.places c.loop-i.i _ c.at-child.ensures

pub put_property-next-requires-clause-apart : goal.put_property-next-requires-clause-apart
put_property-next-requires-clause-apart g c =
    item_may_write (property_words (offset_of c.args.g.now)) (λ p. 2 + words_in (length p.0)) (length-property_words (offset_of c.args.g.now)) _ _ _ c.args.props.now c.loop-i.i _ _ _ _ c.requires.apart c.at-child.ensures c.loop-i.invariant.words c.loop-i.invariant.beside.aside c.loop-i.invariant.next

pub loop-i-preserved : goal.loop-i-preserved
loop-i-preserved g c = record {
  words = item_written (property_words (offset_of c.args.g.now)) (λ p. 2 + words_in (length p.0)) (length-property_words (offset_of c.args.g.now)) _ _ c.args.props.now c.loop-i.i _ _ _ _ c.at-child.ensures c.loop-i.invariant.words c.put_property-next.ensures.words c.loop-i.invariant.next;
  next = omega (arith, cells-more (λ p. 2 + words_in (length p.0)) c.args.props.now c.loop-i.i _ c.at-child.ensures);
  beside = record { aside = c.put_property-next.ensures.beside.aside ∙ c.loop-i.invariant.beside.aside; rest = c.put_property-next.ensures.beside.rest ∙ c.loop-i.invariant.beside.rest };
}
