-- The begin and the end of the lines of an output.
use Rattle.apcu_model.specs.declared.journal.Mark.{Mark}
use Rattle.apcu_model.specs.declared.limits.TheConstants.{MOST_WORKERS}
use Rattle.std.specs.Prelude.{◌<◌, ◌^◌, ℕ, suc, ◌-◌, ◌==◌, ◌||◌, Bool, if◌then◌else◌, List, [], ◌∷◌}
use Rattle.std.specs.Prelude.{slice_index_or}

-- a line begins at this place
abbrev pub begins_line : List ℕ → ℕ → Bool
begins_line output at = at == 0 || slice_index_or output (at - 1) 0 == 10

-- how long a text's first line is, with its line feed
abbrev pub first_line : List ℕ → ℕ
first_line [] = 0
first_line (byte ∷ bytes) = if byte == 10 then 1 else suc (first_line bytes)

-- a worker below `MOST_WORKERS`, and a mask of 64 bits
abbrev pub IsInBits : Mark → Type 0
IsInBits mark = (mark.worker < MOST_WORKERS) × (mark.mask < 2 ^ 64)
