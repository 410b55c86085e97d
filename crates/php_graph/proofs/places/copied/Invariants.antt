use Rattle.std.proofs.Common.{◌≡◌, ◌++◌, drop}
use Rattle.php_graph.proofs.places.copied.Given as goal

-- the copies so far and the rest
abbrev pub invariant-loop-place : goal.invariant-loop-place
invariant-loop-place l = l.copies.items ++ drop l.place-index l.places ≡ l.places
