use Rattle.std.specs.Int.{w64}
use Rattle.std.proofs.lemmas.Int.{to_z-of_z}
use Rattle.apcu_model.proofs.Scalars.{int_alone}
use Rattle.apcu_model.proofs.integers.integer.Goals as goal

pub from_places-requires : goal.from_places-requires
from_places-requires c = int_alone c.args.n _ c.ranges.n (to_z-of_z w64 c.args.n c.ranges.n) c.new.result.items c.new.ensures.items
