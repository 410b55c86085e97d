-- What an input spells for a task is one, and what it lacks it does not spell.
use Rattle.std.proofs.Common.{◌≡◌, ◌≤◌, ℕ, List, [], ◌∷◌, ◌++◌, length, take, drop, Option, Some, None, ⊎_elim, sym, ap, ap₂, ◌∙◌, arith, length-append}
use Rattle.apcu_model.specs.declared.conf.Conf.{Conf}
use Rattle.conf_read.specs.declared.task.Task.{Task}
use Rattle.conf_read.specs.declared.task.Task.TheVariants.{Play, Generate, Verify}
use Rattle.script_read.specs.declared.script.Step.{Step}
use Rattle.script_read.specs.Ties.{ScriptsAreOne}
use Rattle.preload_set.specs.Bundle.{Record}
use Rattle.preload_set.specs.Loader.{loader_of}
use Rattle.preload_set.specs.Ties.{BundlesAreOne}
use Rattle.apcu_play.specs.Inputs.{AreCrew, AreTooMany, AreFew, Spells, SpellsNone, LacksBundle, AreLoaded}

one_crew : ScriptsAreOne → BundlesAreOne → (bundle : Option ℕ) (input : List ℕ) (a b : List (List Step)) → AreCrew bundle input a → AreCrew bundle input b → a ≡ b
one_crew one bundles None input a b x y = one input a b x y
one_crew one bundles (Some len) input a b x y =
    let records : x.records ≡ y.records = bundles (take len input) x.records y.records x.bundle y.bundle in
    let scripts : x.scripts ≡ y.scripts = one (drop len input) x.scripts y.scripts x.spelled y.spelled in
    x.crew_is ∙ (ap₂ (λ (s : List (List Step)) (r : List Record). s ++ loader_of r ∷ []) scripts records ∙ sym y.crew_is)

-- a crew with a loader has a worker
pub some_crew : (len : ℕ) (input : List ℕ) (crew : List (List Step)) → AreLoaded len input crew → 1 ≤ length crew
some_crew len input crew loaded =
    omega (arith, ap length loaded.crew_is, length-append loaded.scripts (loader_of loaded.records ∷ []))

pub one_spelled : ScriptsAreOne → BundlesAreOne → (task : Task) (input : List ℕ) (a b : List (List Step)) → Spells task input a → Spells task input b → a ≡ b
one_spelled one bundles (Play bundle map) input a b x y = one_crew one bundles bundle input a b x y
one_spelled one bundles (Generate seed crew each) input a b x y = absurd x
one_spelled one bundles (Verify len) input a b x y = one (take len input) a b x.spelled y.spelled

pub none_spelled : (task : Task) (input : List ℕ) (scripts : List (List Step)) → Spells task input scripts → SpellsNone task input → ⊥
none_spelled (Play None map) input scripts are none = none scripts are
none_spelled (Play (Some len) map) input scripts are none = none.nothing are.scripts are.spelled
none_spelled (Generate seed crew each) input scripts are none = none
none_spelled (Verify len) input scripts are none = none scripts are

pub loaded_spelled : (task : Task) (input : List ℕ) (scripts : List (List Step)) → Spells task input scripts → LacksBundle task input → ⊥
loaded_spelled (Play None map) input scripts are lacks = lacks
loaded_spelled (Play (Some len) map) input scripts are lacks = lacks are.long are.records are.bundle
loaded_spelled (Generate seed crew each) input scripts are lacks = lacks
loaded_spelled (Verify len) input scripts are lacks = lacks

pub loaded_none : (task : Task) (input : List ℕ) → SpellsNone task input → LacksBundle task input → ⊥
loaded_none (Play None map) input none lacks = lacks
loaded_none (Play (Some len) map) input none lacks = lacks none.long none.records none.bundle
loaded_none (Generate seed crew each) input none lacks = lacks
loaded_none (Verify len) input none lacks = lacks

pub few_many : (bundle : Option ℕ) (conf : Conf) (crew : List (List Step)) → AreFew bundle conf crew → AreTooMany bundle conf crew → ⊥
few_many None conf crew few many = omega (arith, few, many)
few_many (Some len) conf crew few many = ⊎_elim (λ h. omega (arith, few.0, h)) (λ h. omega (arith, few.1, h)) many
