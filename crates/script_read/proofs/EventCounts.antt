-- Events counted step by step and worker by worker.
use Rattle.std.proofs.Common.{◌≡◌, ℕ, ◌+◌, List, ◌∷◌, drop, slice_get, Some, ap, ◌∙◌}
use Rattle.std.proofs.lemmas.List.{drop_more}
use Rattle.std.proofs.lemmas.Option.{get_or_from_slice_get, slice_get_within}
use Rattle.script_read.specs.declared.script.Step.{Step}
use Rattle.script_read.specs.Budgets.{events_in, all_events}
use Rattle.script_read.specs.Calls.{event_bound}

pub drop_item : {A : Type 0} (xs : List A) (i : ℕ) (x : A) → slice_get xs i ≡ Some x → drop i xs ≡ x ∷ drop (i + 1) xs
drop_item xs i x is = drop_more xs i x (slice_get_within xs i x is) ∙ ap (λ y. y ∷ drop (i + 1) xs) (get_or_from_slice_get xs i x x is)

pub step_counted : (slots : ℕ) (script : List Step) (i : ℕ) (step : Step) → slice_get script i ≡ Some step
    → events_in slots (drop i script) ≡ event_bound slots step.call + events_in slots (drop (i + 1) script)
step_counted slots script i step is = ap (events_in slots) (drop_item script i step is)

pub worker_counted : (slots : ℕ) (scripts : List (List Step)) (w : ℕ) (script : List Step) → slice_get scripts w ≡ Some script
    → all_events slots (drop w scripts) ≡ (events_in slots script + 1) + all_events slots (drop (w + 1) scripts)
worker_counted slots scripts w script is = ap (all_events slots) (drop_item scripts w script is)
