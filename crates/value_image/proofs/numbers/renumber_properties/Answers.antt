use Rattle.std.proofs.Common.{◌≡◌, ℕ, List, length, slice_index, slice_get, slice_set, Some, ap, ap₂, sym, ◌∙◌, arith}
use Rattle.php_graph.specs.declared.child.Child.{Child}
use Rattle.value_image.specs.Reading.{renumbered_member}
use Rattle.value_image.proofs.MixedLists.{length-mixed, get-mixed, set-mixed}
use Rattle.value_image.proofs.numbers.renumber_properties.Goals as goal

pub at-child-requires : goal.at-child-requires
at-child-requires c =
    let f = renumbered_member {A = List ℕ} (slice_index c.args.table.now) in
    let len = length-mixed f c.loop-i.i c.args.props.now in
    let same = ap (length {A = List ℕ × Child}) c.loop-i.invariant in
    omega (arith, len, same)

pub loop-i-preserved : goal.loop-i-preserved
loop-i-preserved c =
    let f = renumbered_member {A = List ℕ} (slice_index c.args.table.now) in
    let m : List ℕ × Child = (c.at-child.result.0.now, c.at-child.result.1) in
    let was : slice_get c.args.props.now c.loop-i.i ≡ Some m =
    sym (get-mixed f c.loop-i.i c.args.props.now) ∙ (ap (λ (ps : List (List ℕ × Child)). slice_get ps c.loop-i.i) (sym c.loop-i.invariant) ∙ c.at-child.ensures) in
    c.set_child.ensures m c.at-child.ensures
    ∙ (ap₂ (λ (ps : List (List ℕ × Child)) (child : Child). slice_set ps c.loop-i.i (m.0, child)) c.loop-i.invariant c.renumbered.ensures
    ∙ set-mixed f c.loop-i.i c.args.props.now m was)
