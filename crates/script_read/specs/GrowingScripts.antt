-- Scripts that are being read, of which the last one grows.
use Rattle.std.specs.Prelude.{ℕ, List, [], ◌∷◌, ◌++◌, length}
use Rattle.script_read.specs.declared.script.Step.{Step}

-- one more step in the last script
abbrev pub grown : List (List Step) → Step → List (List Step)
grown [] step = []
grown (steps ∷ []) step = (steps ++ step ∷ []) ∷ []
grown (steps ∷ next ∷ others) step = steps ∷ grown (next ∷ others) step

-- how many steps the last script has
abbrev pub last_len : List (List Step) → ℕ
last_len [] = 0
last_len (steps ∷ []) = length steps
last_len (steps ∷ next ∷ others) = last_len (next ∷ others)
