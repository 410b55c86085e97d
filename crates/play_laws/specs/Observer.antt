-- Worker 0 as the observer of the counters, and what the workers of generated scripts want.
use Rattle.std.specs.Prelude.{◌≡◌, ℕ, ◌+◌, ◌<◌, ◌≤◌, ◌==◌, List, [], ◌∷◌, ◌++◌, map, count_by}
use Rattle.std.specs.List.{range_with_len}
use Rattle.apcu_model.specs.declared.journal.Mark.{Mark}
use Rattle.apcu_model.specs.declared.request.Request.{Request}
use Rattle.apcu_model.specs.declared.request.Request.TheVariants as requests
use Rattle.script_read.specs.declared.call.Call.TheVariants.{FetchOne}
use Rattle.script_read.specs.declared.script.Step.{Step}
use Rattle.script_read.specs.Play.{Wish}
use Rattle.script_read.specs.GeneratedScripts.{Draw, counter_key, asked_by, step_now}

-- its looks: it fetches the counters in order
abbrev pub counters_read : List Step
counters_read =
    map {A = ℕ} {B = Step} (λ n. step_now (FetchOne (counter_key n))) (range_with_len 0 8)

-- after its own script worker 0 is the observer
abbrev pub observed : List (List Step) → List (List Step)
observed [] = []
observed (script ∷ scripts) = (script ++ counters_read) ∷ scripts

-- what the workers want, wish by wish: a worker's own draws, the observer's looks, and the end
abbrev pub wish_now : Request → Wish
wish_now request = record { request = request; t = 0 }

abbrev pub wishes_of_draws : ℕ → List Draw → List Wish
wishes_of_draws worker draws = map (λ draw. wish_now (asked_by worker draw)) draws

abbrev pub wishes_of_looks : List Wish
wishes_of_looks =
    map {A = ℕ} {B = Wish} (λ n. wish_now (requests.Fetch (counter_key n))) (range_with_len 0 8)

abbrev pub wish_to_end : Wish
wish_to_end = wish_now requests.Retire

-- the number of events of a worker in a journal
abbrev pub times_marked : ℕ → List Mark → ℕ
times_marked worker marks = count_by (λ (mark : Mark). mark.worker == worker) marks

-- Scripts of this many calls, each of which is one event: before any event of worker 0 that is not
-- of its own calls, every other worker has made all its events, its end too.
abbrev pub IsObservedLast : ℕ → ℕ → List Mark → Type 0
IsObservedLast workers calls journal =
    (before after : List Mark) (mark : Mark) → journal ≡ before ++ mark ∷ after
    → mark.worker ≡ 0 → calls ≤ times_marked 0 before
    → (worker : ℕ) → 0 < worker → worker < workers → times_marked worker before ≡ calls + 1
