use Rattle.std.specs.Int.{w64}
use Rattle.std.proofs.lemmas.Int.{to_z-of_z}
use Rattle.notation.proofs.PlainValues.{integer_kept}
use Rattle.notation.proofs.plain.integer_graph.Goals as goal

pub from_places-requires : goal.from_places-requires
from_places-requires c = integer_kept c.args.number _ c.ranges.number (to_z-of_z w64 c.args.number c.ranges.number) c.new.result.items c.new.ensures.items
