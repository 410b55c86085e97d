-- What is counted on a key in the events of a history.
use Rattle.std.specs.Prelude.{ℕ, ℤ, ◌&&◌, not, Bool, true, false, if◌then◌else◌, List, [], ◌∷◌}
use Rattle.std.specs.Prelude.{◌++◌, pos, ◌+ℤ◌}
use Rattle.std.specs.Str.{bytes_eq}
use Rattle.apcu_model.specs.declared.request.Event.{Event}
use Rattle.apcu_model.specs.declared.request.Request.{Request}
use Rattle.apcu_model.specs.declared.request.Request.TheVariants as requests
use Rattle.apcu_model.specs.Cache.{Cache}
use Rattle.apcu_model.specs.Counters.{sum_of, is_expected}
use Rattle.apcu_model.specs.Expiry.{live_row}
use Rattle.apcu_model.specs.History.{Stage, after_event}

-- the step by which a request counts on the key, if it does
abbrev pub increments_in : List ℕ → Request → List ℤ
increments_in key (requests.Inc k step ttl) = if bytes_eq k key then step ∷ [] else []
increments_in key _ = []

-- the steps of all events that count on the key, in order
abbrev pub steps_on : List ℕ → List Event → List ℤ
steps_on key [] = []
steps_on key (e ∷ events) = increments_in key e.request ++ steps_on key events

-- an integer counted up by some steps, each in 64 bits
abbrev pub counted_up : ℤ → List ℤ → ℤ
counted_up n [] = n
counted_up n (step ∷ steps) = counted_up (sum_of n step) steps

-- a compare-and-swap on the key that succeeds in this cache
abbrev pub is_swap : List ℕ → ℕ → Request → Cache → Bool
is_swap key t (requests.Cas k expect set) c = bytes_eq k key && is_expected expect (live_row k t c)
is_swap key t _ c = false

-- none of the events after a stage is one
abbrev pub none_swaps : List ℕ → Stage → List Event → Bool
none_swaps key m [] = true
none_swaps key m (e ∷ events) =
    not (is_swap key e.t e.request m.cache) && none_swaps key (after_event m e) events

-- their sum
abbrev pub total_of : List ℤ → ℤ
total_of [] = pos 0
total_of (step ∷ steps) = step +ℤ total_of steps
