use Rattle.std.proofs.Common.{◌≡◌, map, drop, None}
use Rattle.php_graph.specs.PlaceOffsets.{last_own}
use Rattle.php_graph.proofs.members.Members.last_own.Given as goal

-- the last of the rest, or else the last so far
abbrev pub invariant-loop-item : goal.invariant-loop-item
invariant-loop-item l = last_own l.last (map (λ m. m.1) (drop l.item-index l.item-items)) ≡ last_own None (map (λ m. m.1) l.self)
