-- The patterns of calls, and whether their regexes may be refused.
use Rattle.std.specs.Prelude.{◌≡◌, ◌⊎◌, ℕ, Bool, false, List, Contains, Option, Some, None}
use Rattle.apcu_model.specs.declared.searching.Pattern.{Pattern}
use Rattle.apcu_model.specs.PatternMatches.{is_pattern}
use Rattle.simple_pool.specs.Requests.{ask_pattern}
use Rattle.script_read.specs.declared.call.Call.{Call}
use Rattle.script_read.specs.declared.call.Call.TheVariants.{Walk, WalkDelete, Totals, Pool}
use Rattle.script_read.specs.declared.script.Step.{Step}

-- the pattern of a call, if it has one; if a pool is cleared, that of its keys
abbrev pub call_pattern : Call → Option Pattern
call_pattern (Walk wanted fields size list) = wanted
call_pattern (WalkDelete wanted size) = wanted
call_pattern (Totals wanted list) = wanted
call_pattern (Pool call) = ask_pattern call.pool call.ask
call_pattern _ = None

-- the grammar does not parse it, or the maker of regexes may refuse it
abbrev pub IsRefusable : (Bool → List ℕ → Type 0) → Pattern → Type 0
IsRefusable may_refuse p = (is_pattern p.fold p.text ≡ false) ⊎ may_refuse p.fold p.text

-- there is a pattern, and it may be refused
abbrev pub MayBeRefused : (Bool → List ℕ → Type 0) → Option Pattern → Type 0
MayBeRefused may_refuse wanted =
    (pattern : Pattern) × (wanted ≡ Some pattern) × IsRefusable may_refuse pattern

-- a call of the script has a pattern that may be refused
pub record HasRefusable (may_refuse : Bool → List ℕ → Type 0) (script : List Step) : Type 0 where
  pub step : Step
  pub pattern : Pattern
  pub there : Contains script step
  pub has : call_pattern step.call ≡ Some pattern
  pub refusable : IsRefusable may_refuse pattern

-- a call of one of the scripts has one
pub record SomeRefusable (may_refuse : Bool → List ℕ → Type 0) (scripts : List (List Step))
    : Type 0 where
  pub script : List Step
  pub among : Contains scripts script
  pub has : HasRefusable may_refuse script
