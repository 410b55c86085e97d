-- Under each clock generated scripts are the same.
use Rattle.std.proofs.Common.{◌≡◌, ℕ, ◌+◌, List, [], ◌∷◌, ◌++◌, map, refl, ap, ◌∙◌}
use Rattle.std.specs.List.{range_with_len}
use Rattle.std.proofs.lemmas.List.{map-append}
use Rattle.apcu_model.specs.declared.conf.Clock.{Clock}
use Rattle.apcu_model.specs.declared.conf.Clock.TheVariants as clocks
use Rattle.script_read.specs.declared.call.Call.{Call}
use Rattle.script_read.specs.declared.call.Call.TheVariants.{FetchOne}
use Rattle.script_read.specs.declared.script.Step.{Step}
use Rattle.script_read.specs.Clock.{timed_step, timed, all_timed}
use Rattle.script_read.specs.GeneratedScripts.{Draw, counter_key, call_of, step_now, steps_of_draws, scripts_from, draws_of, generated}
use Rattle.play_laws.specs.Observer.{counters_read, observed}

-- a call at the moment 0, in a request that began then
step_timed : (clock : Clock) (call : Call) → timed_step clock (step_now call) ≡ step_now call
step_timed clocks.Line call = refl
step_timed clocks.Request call = refl

calls_timed : {X : Type 0} (clock : Clock) (f : X → Call) (xs : List X) → timed clock (map {A = X} {B = Step} (λ x. step_now (f x)) xs) ≡ map {A = X} {B = Step} (λ x. step_now (f x)) xs
calls_timed clock f [] = refl
calls_timed {X = X} clock f (x ∷ xs) =
    ap (λ (s : Step). s ∷ timed clock (map {A = X} {B = Step} (λ y. step_now (f y)) xs)) (step_timed clock (f x)) ∙ ap (λ (l : List Step). step_now (f x) ∷ l) (calls_timed clock f xs)

draws_timed : (clock : Clock) (worker : ℕ) (draws : List Draw) → timed clock (steps_of_draws worker draws) ≡ steps_of_draws worker draws
draws_timed clock worker draws = calls_timed clock (call_of worker) draws

looks_timed : (clock : Clock) → timed clock counters_read ≡ counters_read
looks_timed clock = calls_timed clock (λ n. FetchOne (counter_key n)) (range_with_len 0 8)

others_timed : (clock : Clock) (worker : ℕ) (draws : List (List Draw)) → all_timed clock (scripts_from worker draws) ≡ scripts_from worker draws
others_timed clock worker [] = refl
others_timed clock worker (own ∷ draws) =
    ap (λ (l : List Step). l ∷ all_timed clock (scripts_from (worker + 1) draws)) (draws_timed clock worker own)
    ∙ ap (λ (l : List (List Step)). steps_of_draws worker own ∷ l) (others_timed clock (worker + 1) draws)

all_same : (clock : Clock) (draws : List (List Draw)) → all_timed clock (observed (scripts_from 0 draws)) ≡ observed (scripts_from 0 draws)
all_same clock [] = refl
all_same clock (own ∷ draws) =
    let first : timed clock (steps_of_draws 0 own ++ counters_read) ≡ steps_of_draws 0 own ++ counters_read =
    map-append (timed_step clock) (steps_of_draws 0 own) counters_read
    ∙ (ap (λ (l : List Step). l ++ timed clock counters_read) (draws_timed clock 0 own) ∙ ap (λ (l : List Step). steps_of_draws 0 own ++ l) (looks_timed clock)) in
    ap (λ (l : List Step). l ∷ all_timed clock (scripts_from 1 draws)) first
    ∙ ap (λ (l : List (List Step)). (steps_of_draws 0 own ++ counters_read) ∷ l) (others_timed clock 1 draws)

pub same_timed : (clock : Clock) (seed workers calls : ℕ) → all_timed clock (observed (generated seed workers calls)) ≡ observed (generated seed workers calls)
same_timed clock seed workers calls = all_same clock (draws_of seed workers calls)
