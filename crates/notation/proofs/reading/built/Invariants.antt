use Rattle.std.proofs.Common.{length}
use Rattle.std.specs.Prelude.{reverse}
use Rattle.php_graph.specs.Graph.{levels}
use Rattle.php_graph.specs.Building.{nothing_drafted}
use Rattle.notation.specs.Reading.{value_at}
use Rattle.notation.specs.Outer.{HasCome}
use Rattle.notation.proofs.reading.built.Given as goal

abbrev pub invariant-reading : goal.invariant-reading
invariant-reading l = HasCome (reverse l.outer.items) l.members l.builder l.rest (value_at levels nothing_drafted l.bytes)

abbrev pub decreases-reading : goal.decreases-reading
decreases-reading l = length l.rest
