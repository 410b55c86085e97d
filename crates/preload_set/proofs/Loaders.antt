-- What the loader's script is under any clock.
use Rattle.std.proofs.Common.{◌≡◌, ℕ, zero, suc, ◌+◌, false, List, [], ◌∷◌, ◌++◌, length, drop, Some, None, slice_get, append_assoc, refl, sym, ap, ◌∙◌, arith}
use Rattle.std.specs.List.{Contains}
use Rattle.seg_words.specs.Members.{map_there}
use Rattle.apcu_model.specs.declared.conf.Clock.{Clock}
use Rattle.apcu_model.specs.declared.conf.Clock.TheVariants as clocks
use Rattle.script_read.specs.declared.call.Call.TheVariants.{StoreOne}
use Rattle.script_read.specs.declared.script.Step.{Step}
use Rattle.script_read.specs.Budgets.{events_in}
use Rattle.script_read.specs.Clock.{timed}
use Rattle.script_read.specs.GeneratedScripts.{step_now}
use Rattle.script_read.specs.Patterns.{call_pattern}
use Rattle.preload_set.specs.Bundle.{Record}
use Rattle.preload_set.specs.Loader.{loader_of}

abbrev step_for : Record → Step
step_for r = step_now (StoreOne r.0 r.1 0 false)

-- at whatever clock
pub loader_timed : (clock : Clock) (records : List Record) → timed clock (loader_of records) ≡ loader_of records
loader_timed clock [] = refl
loader_timed clocks.Line (r ∷ records) = ap (λ (l : List Step). step_for r ∷ l) (loader_timed clocks.Line records)
loader_timed clocks.Request (r ∷ records) = ap (λ (l : List Step). step_for r ∷ l) (loader_timed clocks.Request records)

pub loader_events : (slots : ℕ) (records : List Record) → events_in slots (loader_of records) ≡ length records
loader_events slots [] = refl
loader_events slots (r ∷ records) = omega (arith, loader_events slots records)

-- none of its calls has a pattern
pub loader_plain : (records : List Record) (step : Step) → Contains (loader_of records) step → call_pattern step.call ≡ None
loader_plain records step there =
    let x = map_there step_for records step there in
    sym (ap (λ (s : Step). call_pattern s.call) x.2)

-- ---- step by step

drop_there : (records : List Record) (i : ℕ) (r : Record) → slice_get records i ≡ Some r → drop i records ≡ r ∷ drop (suc i) records
drop_there [] i r there = absurd (cc there)
drop_there (x ∷ records) zero r there = let same : x ≡ r = cc there in ap (λ (y : Record). y ∷ records) same
drop_there (x ∷ records) (suc i) r there = drop_there records i r there

pub one_step : (records : List Record) (i : ℕ) (r : Record) (done more : List Step) (step : Step) → slice_get records i ≡ Some r → more ≡ done ++ step ∷ [] → step ≡ step_for r
    → done ++ loader_of (drop i records) ≡ loader_of records → more ++ loader_of (drop (i + 1) records) ≡ loader_of records
one_step records i r done more step there grown is whole =
    let rest = loader_of (drop (suc i) records) in
    let next : i + 1 ≡ suc i = omega arith in
    ap (λ (n : ℕ). more ++ loader_of (drop n records)) next
    ∙ (ap (λ (l : List Step). l ++ rest) grown
    ∙ (append_assoc done (step ∷ []) rest
    ∙ (ap (λ (s : Step). done ++ s ∷ rest) is
    ∙ (ap (λ (l : List Record). done ++ loader_of l) (sym (drop_there records i r there)) ∙ whole))))
