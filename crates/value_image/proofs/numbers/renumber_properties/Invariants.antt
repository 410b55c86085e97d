use Rattle.std.proofs.Common.{◌≡◌, slice_index}
use Rattle.value_image.specs.Reading.{renumbered_member}
use Rattle.value_image.proofs.MixedLists.{mixed}
use Rattle.value_image.proofs.numbers.renumber_properties.Given as goal

abbrev pub invariant-loop-i : goal.invariant-loop-i
invariant-loop-i l = l.props ≡ mixed (renumbered_member (slice_index l.table)) l.i l.initial.props
