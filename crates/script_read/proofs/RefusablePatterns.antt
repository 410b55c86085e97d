-- Patterns that may be refused.
use Rattle.std.proofs.Common.{◌≡◌, ℕ, Bool, List, Some}
use Rattle.std.specs.Prelude.{slice_get}
use Rattle.std.proofs.lemmas.Option.{slice_get_within, get_or_from_slice_get}
use Rattle.script_read.specs.declared.script.Step.{Step}
use Rattle.script_read.specs.Patterns.{call_pattern, MayBeRefused, HasRefusable, SomeRefusable}

-- a step of the script has one
pub step_refusable : (may_refuse : Bool → List ℕ → Type 0) (script : List Step) (number : ℕ) (step : Step) → slice_get script number ≡ Some step → MayBeRefused may_refuse (call_pattern step.call) → HasRefusable may_refuse script
step_refusable may_refuse script number step at refused = record {
  step = step;
  pattern = refused.0;
  there = (number, slice_get_within script number step at, get_or_from_slice_get script number step step at);
  has = refused.1;
  refusable = refused.2;
}

-- one of the scripts has one
pub script_refusable : (may_refuse : Bool → List ℕ → Type 0) (scripts : List (List Step)) (v : ℕ) (script : List Step) → slice_get scripts v ≡ Some script → HasRefusable may_refuse script → SomeRefusable may_refuse scripts
script_refusable may_refuse scripts v script at has = record {
  script = script;
  among = (v, slice_get_within scripts v script at, get_or_from_slice_get scripts v script script at);
  has = has;
}
