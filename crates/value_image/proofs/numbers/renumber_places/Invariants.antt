use Rattle.std.proofs.Common.{◌≡◌, slice_index}
use Rattle.php_graph.specs.PlaceOffsets.{kinds_at, offsets_at}
use Rattle.value_image.specs.Reading.{renumbered_kind}
use Rattle.value_image.proofs.MixedLists.{mixed}
use Rattle.value_image.proofs.numbers.renumber_places.Given as goal

abbrev pub invariant-loop-i : goal.invariant-loop-i
invariant-loop-i l = record {
  kinds : kinds_at l.places.items ≡ mixed (renumbered_kind (slice_index l.table)) l.i (kinds_at l.initial.places.items);
  offsets : offsets_at l.places.items ≡ offsets_at l.initial.places.items;
}
