-- What an input spells for a run of each task, and where its first fault is.
use Rattle.std.specs.Prelude.{◌≡◌, ◌⊎◌, ℕ, ◌+◌, ◌<◌, ◌≤◌, List, [], ◌∷◌, ◌++◌, length, take, drop}
use Rattle.std.specs.Prelude.{Bool, Option, Some, None}
use Rattle.apcu_model.specs.declared.conf.Conf.{Conf}
use Rattle.apcu_model.specs.declared.journal.Mark.{Mark}
use Rattle.apcu_model.specs.declared.limits.TheConstants.{MOST_WORKERS}
use Rattle.conf_read.specs.declared.task.Task.{Task}
use Rattle.conf_read.specs.declared.task.Task.TheVariants.{Play, Generate, Verify}
use Rattle.notation.specs.declared.fault.Reason.{Reason}
use Rattle.notation.specs.declared.fault.Reason.TheVariants.{End}
use Rattle.script_read.specs.declared.script.Step.{Step}
use Rattle.script_read.specs.Budgets.{all_events, most_events}
use Rattle.script_read.specs.Gives.{IsFirstScriptFault}
use Rattle.script_read.specs.Grammar.{AreScripts}
use Rattle.preload_set.specs.Bundle.{Record, AreRecords}
use Rattle.preload_set.specs.Gives.{IsFrontFault}
use Rattle.preload_set.specs.Loader.{loader_of}

-- ---- scripts

-- The first `len` bytes are a bundle, and the rest spells scripts. The crew are these scripts and,
-- after them, the bundle's loader.
pub record AreLoaded (len : ℕ) (input : List ℕ) (crew : List (List Step)) : Type 0 where
  pub records : List Record
  pub scripts : List (List Step)
  pub long : len ≤ length input
  pub bundle : AreRecords (take len input) records
  pub spelled : AreScripts (drop len input) scripts
  pub crew_is : crew ≡ scripts ++ loader_of records ∷ []

-- the whole input spells the crew, after a bundle of this number of bytes if there is one
abbrev pub AreCrew : Option ℕ → List ℕ → List (List Step) → Type 0
AreCrew None input crew = AreScripts input crew
AreCrew (Some len) input crew = AreLoaded len input crew

-- the first `len` bytes spell the scripts
pub record AreInFront (len : ℕ) (input : List ℕ) (scripts : List (List Step)) : Type 0 where
  pub long : len ≤ length input
  pub spelled : AreScripts (take len input) scripts

-- the input spells these scripts for a run of the task; for a generated run it spells nothing
abbrev pub Spells : Task → List ℕ → List (List Step) → Type 0
Spells (Play bundle map) input scripts = AreCrew bundle input scripts
Spells (Generate seed crew each) input scripts = ⊥
Spells (Verify len) input scripts = AreInFront len input scripts

-- ---- how many

-- The calls, with each worker's end, may make too many events; or there is a loader in addition to
-- `MOST_WORKERS` scripts.
abbrev pub AreTooMany : Option ℕ → Conf → List (List Step) → Type 0
AreTooMany None conf crew = most_events < all_events conf.slots crew
AreTooMany (Some len) conf crew =
    (most_events < all_events conf.slots crew) ⊎ (MOST_WORKERS < length crew)

-- they may not
abbrev pub AreFew : Option ℕ → Conf → List (List Step) → Type 0
AreFew None conf crew = all_events conf.slots crew ≤ most_events
AreFew (Some len) conf crew =
    (all_events conf.slots crew ≤ most_events) × (length crew ≤ MOST_WORKERS)

-- the scripts of a task that is no play are measured by their events alone
abbrev pub bundle_of : Task → Option ℕ
bundle_of (Play bundle map) = bundle
bundle_of (Generate seed crew each) = None
bundle_of (Verify len) = None

-- ---- no scripts

-- The first `len` bytes are a bundle, and the rest spells no scripts.
pub record AreLoadedAlone (len : ℕ) (input : List ℕ) : Type 0 where
  pub records : List Record
  pub long : len ≤ length input
  pub bundle : AreRecords (take len input) records
  pub nothing : (scripts : List (List Step)) → ¬ AreScripts (drop len input) scripts

abbrev pub IsNoCrew : Option ℕ → List ℕ → Type 0
IsNoCrew None input = (scripts : List (List Step)) → ¬ AreScripts input scripts
IsNoCrew (Some len) input = AreLoadedAlone len input

-- The input spells no scripts for a run of the task, though any bundle in front of them is valid.
abbrev pub SpellsNone : Task → List ℕ → Type 0
SpellsNone (Play bundle map) input = IsNoCrew bundle input
SpellsNone (Generate seed crew each) input = ⊥
SpellsNone (Verify len) input = (scripts : List (List Step)) → ¬ AreInFront len input scripts

-- the place and the reason of the first fault of scripts after this number of bytes
pub record IsFaultBehind (len : ℕ) (input : List ℕ) (place : ℕ) (reason : Reason) : Type 0 where
  pub behind : ℕ
  pub first : IsFirstScriptFault (drop len input) behind reason
  pub at : place ≡ len + behind

-- those of scripts in front: an input that has fewer bytes is at fault at its end, whatever its
-- bytes are
abbrev pub IsFaultInFront : ℕ → List ℕ → ℕ → Reason → Type 0
IsFaultInFront len input place reason =
    ((length input < len) × (place ≡ length input) × (reason ≡ End))
    ⊎ ((len ≤ length input) × IsFirstScriptFault (take len input) place reason)

abbrev pub IsCrewFault : Option ℕ → List ℕ → ℕ → Reason → Type 0
IsCrewFault None input place reason = IsFirstScriptFault input place reason
IsCrewFault (Some len) input place reason = IsFaultBehind len input place reason

-- The first fault of the scripts, from left to right; places count from the input's start.
abbrev pub IsFirstInputFault : Task → List ℕ → ℕ → Reason → Type 0
IsFirstInputFault (Play bundle map) input place reason = IsCrewFault bundle input place reason
IsFirstInputFault (Generate seed crew each) input place reason = ⊥
IsFirstInputFault (Verify len) input place reason = IsFaultInFront len input place reason

-- ---- no bundle

abbrev pub IsNoBundle : Option ℕ → List ℕ → Type 0
IsNoBundle None input = ⊥
IsNoBundle (Some len) input =
    len ≤ length input → (records : List Record) → ¬ AreRecords (take len input) records

abbrev pub IsBundleFault : Option ℕ → List ℕ → ℕ → Reason → Type 0
IsBundleFault None input place reason = ⊥
IsBundleFault (Some len) input place reason = IsFrontFault len input place reason

-- A bundle is asked for, and the input has fewer bytes, or its first ones are no bundle.
abbrev pub LacksBundle : Task → List ℕ → Type 0
LacksBundle (Play bundle map) input = IsNoBundle bundle input
LacksBundle (Generate seed crew each) input = ⊥
LacksBundle (Verify len) input = ⊥

-- the first fault of the bundle
abbrev pub IsFirstBundleFault : Task → List ℕ → ℕ → Reason → Type 0
IsFirstBundleFault (Play bundle map) input place reason = IsBundleFault bundle input place reason
IsFirstBundleFault (Generate seed crew each) input place reason = ⊥
IsFirstBundleFault (Verify len) input place reason = ⊥
