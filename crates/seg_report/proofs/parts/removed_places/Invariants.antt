use Rattle.std.proofs.Common.{◌≡◌, ◌++◌, drop, length}
use Rattle.seg_words.specs.Kept.{Kept}
use Rattle.entry_slots.specs.Lists.{first_place}
use Rattle.entry_slots.specs.Standing.{entries}
use Rattle.seg_report.proofs.SortedPlaces.{places_of}
use Rattle.seg_report.proofs.parts.removed_places.Given as goal

abbrev pub invariant-loop-at : goal.invariant-loop-at
invariant-loop-at g l = record {
  at : l.at ≡ first_place (drop (length l.places.items) (entries l.slots).removed);
  places : l.places.items ++ places_of (drop (length l.places.items) (entries l.slots).removed)
      ≡ places_of (entries l.slots).removed;
  kept : Kept g.S.WordsIn l.fn.seg l.seg;
}

abbrev pub decreases-loop-at : goal.decreases-loop-at
decreases-loop-at g l = length (drop (length l.places.items) (entries l.slots).removed)
