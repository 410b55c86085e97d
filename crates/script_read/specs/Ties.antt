-- How reading is tied to the grammar.
use Rattle.std.specs.Prelude.{◌≡◌, ℕ, ◌<◌, List, Ok}
use Rattle.std.specs.List.{AllByRecursion}
use Rattle.script_read.specs.declared.script.Step.{Step}
use Rattle.script_read.specs.Grammar.{AreScripts}
use Rattle.script_read.specs.Reading.{scripts_at}

abbrev pub AreSomeBytes : List ℕ → Type 0
AreSomeBytes bytes = AllByRecursion (λ b. b < 256) bytes

-- what is read of bytes is spelled there
abbrev pub ScriptsTake : Type 0
ScriptsTake = (bytes : List ℕ) (scripts : List (List Step)) → AreSomeBytes bytes
    → scripts_at bytes ≡ Ok scripts → AreScripts bytes scripts

-- what is spelled is read
abbrev pub ScriptsAgain : Type 0
ScriptsAgain = (bytes : List ℕ) (scripts : List (List Step)) → AreScripts bytes scripts
    → scripts_at bytes ≡ Ok scripts

-- bytes spell at most one list of scripts
abbrev pub ScriptsAreOne : Type 0
ScriptsAreOne = (bytes : List ℕ) (a b : List (List Step)) → AreScripts bytes a
    → AreScripts bytes b → a ≡ b
