use Rattle.notation.proofs.Bounds.{reading_inside}
use Rattle.notation.proofs.laws.readings_stay_inside.Goals as goal

pub returns : goal.returns
returns c = reading_inside
