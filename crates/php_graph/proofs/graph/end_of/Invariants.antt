use Rattle.std.proofs.Common.{◌-◌, ◌+◌, length}
use Rattle.php_graph.proofs.PartEnds.{Leads}
use Rattle.php_graph.specs.PlaceOffsets.{kinds_of}
use Rattle.php_graph.proofs.graph.end_of.Given as goal

-- the value at place k ends where this one does
abbrev pub invariant-loop-last : goal.invariant-loop-last
invariant-loop-last l = Leads (kinds_of l.places) l.k l.place

abbrev pub decreases-loop-last : goal.decreases-loop-last
decreases-loop-last l = length (kinds_of l.places) + 1 - l.place
