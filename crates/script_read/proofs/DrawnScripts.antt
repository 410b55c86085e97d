-- Scripts of draws, one step and one script after the other.
use Rattle.std.proofs.Common.{◌≡◌, ℕ, suc, ◌+◌, ◌-◌, ◌<◌, ◌%◌, ◌^◌, List, [], ◌∷◌, ◌++◌, map, sym, ap, ◌∙◌, append_assoc, arith}
use Rattle.std.specs.List.{range_with_len}
use Rattle.script_read.specs.declared.script.Step.{Step}
use Rattle.script_read.specs.GeneratedScripts.{step_now, draw_of, drawn_number, state_after, draws_from, call_of, steps_of_draws, scripts_from}

-- what is left of a worker's script
abbrev pub rest_of : ℕ → ℕ → ℕ → ℕ → List Step
rest_of worker workers calls state = steps_of_draws worker (draws_from workers calls state)

pub one_step : (worker workers calls k state : ℕ) (done more all : List Step) (step : Step) → k < calls → more ≡ done ++ step ∷ [] → step ≡ step_now (call_of worker (draw_of workers (drawn_number (state_after state))))
    → done ++ rest_of worker workers (calls - k) state ≡ all → more ++ rest_of worker workers (calls - (k + 1)) (state_after state) ≡ all
one_step worker workers calls k state done more all step h grown is whole =
    let next = state_after state in
    let left = calls - (k + 1) in
    let count : calls - k ≡ suc left = omega (arith, h) in
    ap (λ (l : List Step). l ++ rest_of worker workers left next) grown
    ∙ (append_assoc done (step ∷ []) (rest_of worker workers left next)
    ∙ (ap (λ (s : Step). done ++ s ∷ rest_of worker workers left next) is
    ∙ (ap (λ n. done ++ rest_of worker workers n state) (sym count) ∙ whole)))

-- what is left of all scripts
abbrev pub rest_from : ℕ → ℕ → ℕ → ℕ → ℕ → List (List Step)
rest_from seed workers calls worker count =
    scripts_from worker (map (λ w. draws_from workers calls ((seed + w) % 2 ^ 64)) (range_with_len worker count))

pub one_script : (seed workers calls worker : ℕ) (done more all : List (List Step)) (script : List Step) → worker < workers → more ≡ done ++ script ∷ [] → script ≡ rest_of worker workers calls ((seed + worker) % 2 ^ 64)
    → done ++ rest_from seed workers calls worker (workers - worker) ≡ all → more ++ rest_from seed workers calls (worker + 1) (workers - (worker + 1)) ≡ all
one_script seed workers calls worker done more all script h grown is whole =
    let left = workers - (worker + 1) in
    let count : workers - worker ≡ suc left = omega (arith, h) in
    ap (λ (l : List (List Step)). l ++ rest_from seed workers calls (worker + 1) left) grown
    ∙ (append_assoc done (script ∷ []) (rest_from seed workers calls (worker + 1) left)
    ∙ (ap (λ (s : List Step). done ++ s ∷ rest_from seed workers calls (worker + 1) left) is
    ∙ (ap (λ n. done ++ rest_from seed workers calls worker n) (sym count) ∙ whole)))
