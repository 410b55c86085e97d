use Rattle.std.specs.List.{All}
use Rattle.sma_blocks.specs.Live.{IsLive}
use Rattle.block_tests.proofs.listed.places_of.Given as goal

abbrev pub invariant-loop-i : goal.invariant-loop-i
invariant-loop-i l = All (IsLive l.blocks) l.places.items
