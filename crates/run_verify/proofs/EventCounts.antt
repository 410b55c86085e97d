-- The events of all workers.
use Rattle.std.proofs.Common.{◌≡◌, ℕ, ◌+◌, List, [], ◌∷◌, refl, ap₂}
use Rattle.apcu_model.specs.declared.conf.Clock.{Clock}
use Rattle.script_read.specs.declared.script.Step.{Step}
use Rattle.script_read.specs.Budgets.{all_events, timed_events}
use Rattle.script_read.specs.Clock.{all_timed}

-- under each clock they are as many
pub timed_all : (slots : ℕ) (clock : Clock) (scripts : List (List Step)) → all_events slots (all_timed clock scripts) ≡ all_events slots scripts
timed_all slots clock [] = refl
timed_all slots clock (script ∷ scripts) = ap₂ (λ (a b : ℕ). (a + 1) + b) (timed_events slots clock script) (timed_all slots clock scripts)
