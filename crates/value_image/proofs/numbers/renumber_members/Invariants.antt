use Rattle.std.proofs.Common.{◌≡◌, slice_index}
use Rattle.value_image.specs.Reading.{renumbered_member}
use Rattle.value_image.proofs.MixedLists.{mixed}
use Rattle.value_image.proofs.numbers.renumber_members.Given as goal

abbrev pub invariant-loop-i : goal.invariant-loop-i
invariant-loop-i l = l.members ≡ mixed (renumbered_member (slice_index l.table)) l.i l.initial.members
