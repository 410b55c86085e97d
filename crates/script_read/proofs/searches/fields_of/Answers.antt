use Rattle.std.proofs.Common.{Option, Some, sym, ap, ◌∙◌}
use Rattle.php_graph.specs.declared.kind.Kind.{Kind}
use Rattle.script_read.proofs.Members.{some_places, members_of, member_there}
use Rattle.script_read.proofs.FieldBits.{with_bits, bits_behind, one_bit_more, no_field, fields_are}
use Rattle.script_read.proofs.searches.fields_of.Goals as goal

abbrev found : Kind → Option Kind
found kind = Some kind

pub kind-requires-clause-there : goal.kind-requires-clause-there
kind-requires-clause-there c = some_places c.args.graph.now c.places-places.ensures.graph

pub bit_named-requires : goal.bit_named-requires
bit_named-requires c =
    member_there c.args.graph.now c.in-Array.members c.loop-i.i (c.at-child.result.0.now, c.at-child.result.1) c.places-places.ensures.graph (c.kind.ensures ∙ ap found c.in-Array.is) c.at-child.ensures

pub returns-in_err-bits : goal.returns-in_err-bits
returns-in_err-bits c =
    let g = c.args.graph.now in
    let ms = c.in-Array.members in
    let whole : Option _ = with_bits 0 (bits_behind g ms 0) in
    c.from_residual.ensures
    ∙ (no_field g ms c.loop-i.i (c.at-child.result.0.now, c.at-child.result.1) c.loop-i.bits whole c.at-child.ensures (sym c.in_err-bits.ensures) c.loop-i.invariant
    ∙ sym (fields_are g ms (members_of g ms (c.kind.ensures ∙ ap found c.in-Array.is))))

pub loop-i-preserved : goal.loop-i-preserved
loop-i-preserved c =
    let g = c.args.graph.now in
    let ms = c.in-Array.members in
    one_bit_more g ms c.loop-i.i (c.at-child.result.0.now, c.at-child.result.1) c.loop-i.bits c.in_ok-bits.field-0 (with_bits 0 (bits_behind g ms 0)) c.at-child.ensures (sym c.in_ok-bits.ensures) c.loop-i.invariant
