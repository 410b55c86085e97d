use Rattle.std.proofs.Common.{◌≤◌}
use Rattle.seg_words.specs.Kept.{Kept}
use Rattle.entry_slots.specs.Standing.{entries}
use Rattle.ttl_expunge.proofs.RemovedPlaces.{Listing}
use Rattle.ttl_expunge.proofs.at_once.removed_places.Given as goal

abbrev pub invariant-loop-count : goal.invariant-loop-count
invariant-loop-count g l = record {
  few : l.count ≤ 64;
  listing : Listing (entries l.slots).removed l.at l.count l.places;
  kept : Kept g.S.WordsIn l.fn.seg l.seg;
}
