use Rattle.std.proofs.Common.{◌≡◌, take}
use Rattle.php_graph.specs.PlaceOffsets.{kinds_at}
use Rattle.php_graph.proofs.places.same_places.Given as goal

-- the places so far are the same
abbrev pub invariant-loop-i : goal.invariant-loop-i
invariant-loop-i l = kinds_at (take l.i l.places) ≡ kinds_at (take l.i l.others)
