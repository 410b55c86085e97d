use Rattle.std.proofs.Common.{◌≡◌, ◌++◌, drop}
use Rattle.std.specs.Option.{option_map}
use Rattle.php_graph.specs.PlaceOffsets.{kinds_at}
use Rattle.php_graph.specs.Graph.{lowered_places}
use Rattle.php_graph.proofs.places.lowered.Given as goal

-- the lowered ones so far and those of the rest
abbrev pub invariant-loop-place : goal.invariant-loop-place
invariant-loop-place l = option_map (λ rest. kinds_at l.made.items ++ rest) (lowered_places l.by (kinds_at (drop l.place-index l.places))) ≡ lowered_places l.by (kinds_at l.places)
