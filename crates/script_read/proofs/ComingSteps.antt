-- Steps that come one after the other.
use Rattle.std.proofs.Common.{◌≡◌, ℕ, zero, suc, ◌+◌, ◌-◌, ◌<◌, ◌≤◌, ◌%◌, ◌^◌, List, [], ◌∷◌, length, map, drop, slice_get, Some, refl, sym, ap, ◌∙◌, arith}
use Rattle.std.proofs.lemmas.List.{length-drop}
use Rattle.std.specs.List.{range_with_len}
use Rattle.script_read.specs.declared.script.Step.{Step}
use Rattle.script_read.specs.GeneratedScripts.{Draw, state_after, drawn_number, draw_of, draws_from, call_of, step_now, steps_of_draws, scripts_from, generated}
use Rattle.script_read.proofs.EventCounts.{drop_item}

-- ---- how many there are

pub draws_counted : (worker workers calls state : ℕ) → length (steps_of_draws worker (draws_from workers calls state)) ≡ calls
draws_counted worker workers zero state = refl
draws_counted worker workers (suc calls) state = ap suc (draws_counted worker workers calls (state_after state))

pub rest_counted : (script : List Step) (left : ℕ) → left ≤ length script → length (drop (length script - left) script) ≡ left
rest_counted script left few = omega (arith, few, length-drop (length script - left) script)

-- ---- the first one

pub first_read : (script : List Step) (left : ℕ) (step : Step) → 0 < left → left ≤ length script → slice_get script (length script - left) ≡ Some step → drop (length script - left) script ≡ step ∷ drop (length script - (left - 1)) script
first_read script left step some few at =
    let next : (length script - left) + 1 ≡ length script - (left - 1) = omega (arith, some, few) in
    drop_item script (length script - left) step at ∙ ap (λ n. step ∷ drop n script) next

pub first_drawn : (worker workers left state : ℕ) → 0 < left
    → steps_of_draws worker (draws_from workers left state) ≡ step_now (call_of worker (draw_of workers (drawn_number (state_after state)))) ∷ steps_of_draws worker (draws_from workers (left - 1) (state_after state))
first_drawn worker workers left state some =
    let count : left ≡ suc (left - 1) = omega (arith, some) in
    ap (λ n. steps_of_draws worker (draws_from workers n state)) count

-- ---- those of a worker

scripts_at : (f : ℕ → List Draw) (a n k : ℕ) → k < n → slice_get (scripts_from a (map f (range_with_len a n))) k ≡ Some (steps_of_draws (a + k) (f (a + k)))
scripts_at f a zero k few = absurd (omega (arith, few))
scripts_at f a (suc n) zero few =
    let here : a ≡ a + 0 = omega arith in
    ap (λ w. Some (steps_of_draws w (f w))) here
scripts_at f a (suc n) (suc k) few =
    let here : (a + 1) + k ≡ a + suc k = omega arith in
    scripts_at f (a + 1) n k (omega (arith, few)) ∙ ap (λ w. Some (steps_of_draws w (f w))) here

pub generated_at : (seed workers calls w : ℕ) → w < workers → slice_get (generated seed workers calls) w ≡ Some (steps_of_draws w (draws_from workers calls ((seed + w) % 2 ^ 64)))
generated_at seed workers calls w few =
    let here : 0 + w ≡ w = omega arith in
    scripts_at (λ worker. draws_from workers calls ((seed + worker) % 2 ^ 64)) 0 workers w few ∙ ap (λ v. Some (steps_of_draws v (draws_from workers calls ((seed + v) % 2 ^ 64)))) here
