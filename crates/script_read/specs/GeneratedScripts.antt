-- Scripts that are made from a number, and what each number that is drawn for them means.
use Rattle.std.specs.Prelude.{ℕ, pos, ◌+◌, ◌*◌, ◌/◌, ◌%◌, ◌^◌, ◌==◌, if◌then◌else◌, List, [], ◌∷◌}
use Rattle.std.specs.Prelude.{zero, suc, false, ◌++◌, map, codes, replicate}
use Rattle.std.specs.Fmt.{decimal}
use Rattle.std.specs.List.{range_with_len}
use Rattle.php_graph.specs.declared.kind.Kind.TheVariants as kinds
use Rattle.apcu_model.specs.declared.request.Request.{Request}
use Rattle.apcu_model.specs.declared.request.Request.TheVariants as requests
use Rattle.script_read.specs.declared.call.Call.{Call}
use Rattle.script_read.specs.declared.call.Call.TheVariants.{StoreOne, FetchOne, Inc}
use Rattle.script_read.specs.declared.script.Step.{Step}

-- the state after one more number, in 64 bits
abbrev pub state_after : ℕ → ℕ
state_after state = (state * 6364136223846793005 + 1442695040888963407) % 2 ^ 64

-- the number that a state gives: its upper bits
abbrev pub drawn_number : ℕ → ℕ
drawn_number state = state / 2 ^ 33

-- the n-th value of a worker, and the n-th counter
abbrev pub value_key : ℕ → ℕ → List ℕ
value_key worker n = codes "p" ++ decimal worker ++ codes "." ++ decimal n

abbrev pub counter_key : ℕ → List ℕ
counter_key n = codes "c" ++ decimal n

-- What a number means: a fetch of a value of some worker, by its numbers; a store of this many
-- bytes under a value of the worker's own; or a step of a counter.
pub data Draw : Type 0 where
  Fetches : ℕ → ℕ → Draw
  Stores : ℕ → ℕ → Draw
  Counts : ℕ → ℕ → Draw

-- with this many workers
abbrev pub draw_of : ℕ → ℕ → Draw
draw_of workers r =
    if r % 4 == 3 then Counts (r / 4 % 8) (r / 32 % 100)
    else if r % 4 == 2 then Stores (r / 4 % 16) (r / 64 % 200)
    else Fetches (r / 64 % workers) (r / 4 % 16)

-- this many draws of a worker, from a state on
abbrev pub draws_from : ℕ → ℕ → ℕ → List Draw
draws_from workers zero state = []
draws_from workers (suc calls) state =
    draw_of workers (drawn_number (state_after state))
    ∷ draws_from workers calls (state_after state)

-- those of each worker: the states begin at the seed, one apart
abbrev pub draws_of : ℕ → ℕ → ℕ → List (List Draw)
draws_of seed workers calls =
    map (λ worker. draws_from workers calls ((seed + worker) % 2 ^ 64)) (range_with_len 0 workers)

-- the worker's call; a store is of a string of the byte x
abbrev pub call_of : ℕ → Draw → Call
call_of worker (Fetches owner n) = FetchOne (value_key owner n)
call_of worker (Stores n len) =
    StoreOne (value_key worker n) (kinds.Str (replicate len 120) ∷ []) 0 false
call_of worker (Counts n step) = Inc (counter_key n) (pos step) 0

-- its request
abbrev pub asked_by : ℕ → Draw → Request
asked_by worker (Fetches owner n) = requests.Fetch (value_key owner n)
asked_by worker (Stores n len) =
    requests.Store (value_key worker n) (kinds.Str (replicate len 120) ∷ []) 0 false
asked_by worker (Counts n step) = requests.Inc (counter_key n) (pos step) 0

-- all calls are made at the moment 0
abbrev pub step_now : Call → Step
step_now call = record { t = 0; start = 0; call = call }

abbrev pub steps_of_draws : ℕ → List Draw → List Step
steps_of_draws worker draws = map (λ draw. step_now (call_of worker draw)) draws

-- the scripts of the workers from one on
abbrev pub scripts_from : ℕ → List (List Draw) → List (List Step)
scripts_from worker [] = []
scripts_from worker (draws ∷ others) =
    steps_of_draws worker draws ∷ scripts_from (worker + 1) others

-- the generated scripts
abbrev pub generated : ℕ → ℕ → ℕ → List (List Step)
generated seed workers calls = scripts_from 0 (draws_of seed workers calls)
