-- What a fault of a bundle or of scripts says of the bytes that were read.
use Rattle.std.proofs.Common.{◌≡◌, ◌≢◌, ◌<◌, ◌≤◌, ◌+◌, ℕ, Bool, List, [], ◌∷◌, ◌++◌, length, take, drop, Option, Some, None, Result, Ok, Err, inl, inr, refl, sym, ap, subst, arith, ◌∙◌, length-append}
use Rattle.notation.specs.declared.fault.Reason.{Reason}
use Rattle.conf_read.specs.declared.task.Task.{Task}
use Rattle.conf_read.specs.declared.task.Task.TheVariants.{Play, Generate, Verify}
use Rattle.script_read.specs.declared.fault.ScriptFault.{ScriptFault}
use Rattle.script_read.specs.declared.fault.ScriptFault.TheVariants as faults
use Rattle.script_read.specs.declared.script.Step.{Step}
use Rattle.script_read.specs.Gives.{ReadsScripts, IsFirstScriptFault}
use Rattle.script_read.specs.Grammar.{AreScripts}
use Rattle.preload_set.specs.Bundle.{Record, AreRecords}
use Rattle.preload_set.specs.Gives.{ReadsFront}
use Rattle.preload_set.specs.Loader.{loader_of}
use Rattle.apcu_play.specs.Inputs.{AreLoaded, AreInFront, SpellsNone, LacksBundle, IsFirstInputFault, IsFirstBundleFault}

zero_more : (n : ℕ) → 0 + n ≡ n
zero_more n = omega arith

not_memory : (place : ℕ) (reason : Reason) (fault : ScriptFault) → fault ≡ faults.Bad place reason → fault ≡ faults.Memory → ⊥
not_memory place reason fault bad memory = cc

-- of the bundle in front
pub bundle_fault : {X : Type 0} (view : X → List Record × List ℕ) (len : ℕ) (map : Bool) (bytes : List ℕ) (fault : ScriptFault) → ReadsFront view len bytes (Err fault)
    → ((records : List Record) → len ≤ length bytes → AreRecords (take len bytes) records → fault ≡ faults.Memory)
    → (place : ℕ) (reason : Reason) → fault ≡ faults.Bad place reason → LacksBundle (Play (Some len) map) bytes × IsFirstBundleFault (Play (Some len) map) bytes (0 + place) reason
bundle_fault view len map bytes fault read only place reason bad = (
  λ long records are. not_memory place reason fault bad (only records long are),
  subst (λ n. IsFirstBundleFault (Play (Some len) map) bytes n reason) (sym (zero_more place)) (subst (λ f. ReadsFront view len bytes (Err f)) bad read),
)

-- of scripts behind a bundle
pub behind_fault : (len : ℕ) (map : Bool) (bytes behind : List ℕ) (records : List Record) (fault : ScriptFault) → len ≤ length bytes → AreRecords (take len bytes) records → behind ≡ drop len bytes
    → ReadsScripts behind (Err fault) → ((scripts : List (List Step)) → AreScripts behind scripts → fault ≡ faults.Memory)
    → (place : ℕ) (reason : Reason) → fault ≡ faults.Bad place reason → SpellsNone (Play (Some len) map) bytes × IsFirstInputFault (Play (Some len) map) bytes (len + place) reason
behind_fault len map bytes behind records fault long are is read only place reason bad = (
  record { records = records; long = long; bundle = are; nothing = λ scripts spelled. not_memory place reason fault bad (only scripts (subst (λ b. AreScripts b scripts) (sym is) spelled)) },
  record { behind = place; first = subst (λ b. IsFirstScriptFault b place reason) is (subst (λ f. ReadsScripts behind (Err f)) bad read); at = refl },
)

-- of scripts alone
pub whole_fault : (map : Bool) (bytes : List ℕ) (fault : ScriptFault) → ReadsScripts bytes (Err fault) → ((scripts : List (List Step)) → AreScripts bytes scripts → fault ≡ faults.Memory)
    → (place : ℕ) (reason : Reason) → fault ≡ faults.Bad place reason → SpellsNone (Play None map) bytes × IsFirstInputFault (Play None map) bytes (0 + place) reason
whole_fault map bytes fault read only place reason bad = (
  λ scripts are. not_memory place reason fault bad (only scripts are),
  subst (λ n. IsFirstInputFault (Play None map) bytes n reason) (sym (zero_more place)) (subst (λ f. ReadsScripts bytes (Err f)) bad read),
)

-- of scripts in front of an output
pub front_fault : (len : ℕ) (bytes front : List ℕ) (fault : ScriptFault) → len ≤ length bytes → front ≡ take len bytes → ReadsScripts front (Err fault) → ((scripts : List (List Step)) → AreScripts front scripts → fault ≡ faults.Memory)
    → (place : ℕ) (reason : Reason) → fault ≡ faults.Bad place reason → SpellsNone (Verify len) bytes × IsFirstInputFault (Verify len) bytes (0 + place) reason
front_fault len bytes front fault long is read only place reason bad = (
  λ scripts are. not_memory place reason fault bad (only scripts (subst (λ b. AreScripts b scripts) (sym is) are.spelled)),
  subst (λ n. IsFirstInputFault (Verify len) bytes n reason) (sym (zero_more place))
      (inr (long, subst (λ b. IsFirstScriptFault b place reason) is (subst (λ f. ReadsScripts front (Err f)) bad read))),
)

-- an input that is too short has none of these scripts
pub short_fault : (len : ℕ) (bytes : List ℕ) → length bytes < len → SpellsNone (Verify len) bytes
short_fault len bytes short scripts are = let long = are.long in omega (arith, short, long)

-- 64 scripts and a loader are too many
pub too_long : (scripts : List (List Step)) (records : List Record) → 64 ≤ length scripts → 64 < length (scripts ++ loader_of records ∷ [])
too_long scripts records many = omega (arith, many, length-append scripts (loader_of records ∷ []))
