-- How many events the workers of scripts may make. It does not depend on moments.
use Rattle.std.proofs.Common.{◌≡◌, ℕ, ◌+◌, List, [], ◌∷◌, refl, ap, ap₂}
use Rattle.std.specs.Prelude.{map}
use Rattle.apcu_model.specs.declared.conf.Clock.{Clock}
use Rattle.apcu_model.specs.declared.journal.TheConstants.{MOST_EVENTS}
use Rattle.script_read.specs.declared.script.Step.{Step}
use Rattle.script_read.specs.Calls.{event_bound}
use Rattle.script_read.specs.Clock.{timed, all_timed}

-- the calls of a script
abbrev pub events_in : ℕ → List Step → ℕ
events_in slots [] = 0
events_in slots (step ∷ steps) = event_bound slots step.call + events_in slots steps

-- for each worker its calls and its end
abbrev pub budgets_of : ℕ → List (List Step) → List ℕ
budgets_of slots scripts = map (λ script. events_in slots script + 1) scripts

-- all workers together, the end of each included
abbrev pub all_events : ℕ → List (List Step) → ℕ
all_events slots [] = 0
all_events slots (script ∷ scripts) = (events_in slots script + 1) + all_events slots scripts

-- the most of all workers together
abbrev pub most_events : ℕ
most_events = MOST_EVENTS

-- under each clock the number is the same
pub timed_events : (slots : ℕ) (clock : Clock) (script : List Step)
    → events_in slots (timed clock script) ≡ events_in slots script
timed_events slots clock [] = refl
timed_events slots clock (step ∷ steps) =
    ap (λ (n : ℕ). event_bound slots step.call + n) (timed_events slots clock steps)

pub timed_budgets : (slots : ℕ) (clock : Clock) (scripts : List (List Step))
    → budgets_of slots (all_timed clock scripts) ≡ budgets_of slots scripts
timed_budgets slots clock [] = refl
timed_budgets slots clock (script ∷ scripts) =
    ap₂ (λ (n : ℕ) (budgets : List ℕ). (n + 1) ∷ budgets)
    (timed_events slots clock script) (timed_budgets slots clock scripts)
