-- What a reader of scripts answers is what the bytes spell.
use Rattle.std.proofs.Common.{◌≡◌, ℕ, List, Result, Ok, Err, refl, sym, ◌∙◌}
use Rattle.std.specs.Prelude.{IfOk, MatchResult}
use Rattle.script_read.specs.declared.fault.ScriptFault.{ScriptFault}
use Rattle.script_read.specs.declared.fault.ScriptFault.TheVariants as faults
use Rattle.script_read.specs.declared.script.Step.{Step}
use Rattle.script_read.specs.Grammar.{AreScripts}
use Rattle.script_read.specs.Ties.{AreSomeBytes, ScriptsTake, ScriptsAgain}
use Rattle.script_read.specs.Gives.{ReadsScripts}
use Rattle.script_read.proofs.ResultBinds.{ok_is}

pub found_read : ScriptsTake → (bytes : List ℕ) (r : Result (List (List Step)) ScriptFault) → AreSomeBytes bytes → ReadsScripts bytes r → IfOk r (AreScripts bytes)
found_read takes bytes (Ok scripts) fits read = takes bytes scripts fits read
found_read takes bytes (Err e) fits read = tt

pub only_read : ScriptsAgain → (bytes : List ℕ) (r : Result (List (List Step)) ScriptFault) → ReadsScripts bytes r → (scripts : List (List Step)) → AreScripts bytes scripts → MatchResult r (λ read. read ≡ scripts) (λ e. e ≡ faults.Memory)
only_read again bytes (Ok found) read scripts are = ok_is found scripts (sym read ∙ again bytes scripts are)
only_read again bytes (Err faults.Memory) read scripts are = refl
only_read again bytes (Err (faults.Bad place reason)) read scripts are = let clash = sym read.reads ∙ again bytes scripts are in absurd cc
