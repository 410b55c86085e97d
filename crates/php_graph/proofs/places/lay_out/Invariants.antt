use Rattle.std.proofs.Common.{◌≡◌, ◌+◌, ◌++◌, take, drop}
use Rattle.php_graph.specs.PlaceOffsets.{kinds_at, offsets_at, offsets_from}
use Rattle.php_graph.specs.Size.{image_length}
use Rattle.php_graph.proofs.places.lay_out.Given as goal

-- the offsets so far and those to come are all, and so are the words
abbrev pub invariant-loop-i : goal.invariant-loop-i
invariant-loop-i l = (kinds_at l.places.items ≡ kinds_at l.initial.places.items)
    × (offsets_at (take l.i l.places.items) ++ offsets_from l.words (kinds_at (drop l.i l.places.items)) ≡ offsets_from l.from (kinds_at l.initial.places.items))
    × (l.words + image_length (kinds_at (drop l.i l.places.items)) ≡ l.from + image_length (kinds_at l.initial.places.items))
