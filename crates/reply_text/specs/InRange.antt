-- Marks as code can hold them.
use Rattle.std.specs.Prelude.{◌<◌, ◌^◌, List, [], ◌∷◌}
use Rattle.apcu_model.specs.declared.journal.Mark.{Mark}

-- each worker's number and each mask have at most 64 bits
abbrev pub AreInRange : List Mark → Type 0
AreInRange [] = Unit {0}
AreInRange (mark ∷ marks) = (mark.worker < 2 ^ 64) × (mark.mask < 2 ^ 64) × AreInRange marks
