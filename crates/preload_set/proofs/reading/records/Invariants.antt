use Rattle.std.proofs.Common.{◌≡◌, ◌≤◌, ◌-◌, length}
use Rattle.notation.specs.Place.{left}
use Rattle.preload_set.specs.Reading.{bundle_at}
use Rattle.preload_set.proofs.RecordLoop.{IsSoFar}
use Rattle.preload_set.proofs.reading.records.Given as goal

abbrev pub invariant-reading : goal.invariant-reading
invariant-reading l = record {
  so_far : IsSoFar l.records (left l.from) (bundle_at l.bytes);
  bytes : l.from.bytes ≡ l.bytes;
  few : length l.records ≤ l.from.place;
}

abbrev pub decreases-reading : goal.decreases-reading
decreases-reading l = length l.bytes - l.from.place
