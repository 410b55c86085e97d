-- The patterns of scripts are valid.
use Rattle.std.specs.Prelude.{◌≡◌, ℕ, true, List, Option, Some, None, slice_get, ⊤}
use Rattle.apcu_model.specs.declared.searching.Pattern.{Pattern}
use Rattle.apcu_model.specs.PatternMatches.{is_pattern}
use Rattle.script_read.specs.declared.script.Step.{Step}
use Rattle.script_read.specs.Patterns.{call_pattern}

-- the grammar reads a pattern there, if there is something to read
abbrev pub IsReadable : Option Pattern → Type 0
IsReadable None = ⊤
IsReadable (Some p) = is_pattern p.fold p.text ≡ true

-- the same for each call of a script
abbrev pub IsReadableScript : List Step → Type 0
IsReadableScript script =
    (k : ℕ) (step : Step) → slice_get script k ≡ Some step → IsReadable (call_pattern step.call)

-- and for each script
abbrev pub AreReadable : List (List Step) → Type 0
AreReadable scripts =
    (v : ℕ) (script : List Step) → slice_get scripts v ≡ Some script → IsReadableScript script
