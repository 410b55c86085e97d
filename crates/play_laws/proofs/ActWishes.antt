-- What the workers of generated scripts want: their acts, one after the other.
use Rattle.std.proofs.Common.{◌≡◌, ℕ, zero, suc, ◌+◌, List, [], ◌∷◌, ◌++◌, length, map, Option, slice_get, refl, ap, ◌∙◌}
use Rattle.std.specs.Prelude.{option_map}
use Rattle.std.specs.List.{AllByRecursion, range_with_len}
use Rattle.std.specs.Option.{option_and_then}
use Rattle.std.proofs.lemmas.List.{map-append}
use Rattle.apcu_model.specs.declared.conf.Conf.{Conf}
use Rattle.apcu_model.specs.declared.request.Reply.{Reply}
use Rattle.script_read.specs.declared.call.Call.TheVariants as calls
use Rattle.script_read.specs.declared.script.Step.{Step}
use Rattle.script_read.specs.Play.{Wish, Play, wanted, replies_of, wish_of}
use Rattle.script_read.specs.GeneratedScripts.{step_now, Draw, Fetches, Stores, Counts, counter_key, call_of, steps_of_draws, scripts_from}
use Rattle.play_laws.specs.Observer.{observed, counters_read}
use Rattle.play_laws.proofs.Acts.{Act, Does, Watches, Ends, request_of}

-- ---- scripts as acts

abbrev pub step_of : Act → Step
step_of (Does worker draw) = step_now (call_of worker draw)
step_of (Watches n) = step_now (calls.FetchOne (counter_key n))
step_of Ends = step_now calls.Enabled

-- it is no end
abbrev pub IsWork : Act → Type 0
IsWork (Does worker draw) = Unit {0}
IsWork (Watches n) = Unit {0}
IsWork Ends = ⊥

abbrev pub AreWork : List Act → Type 0
AreWork body = AllByRecursion IsWork body

-- with the end
abbrev pub ended : List Act → List Act
ended body = body ++ Ends ∷ []

abbrev pub wish_in_act : Act → Wish
wish_in_act act = record { request = request_of act; t = 0 }

pub wanted_act : (conf : Conf) (body : List Act) (replies : List Reply) → AreWork body → wanted conf (map step_of body) replies ≡ option_map wish_in_act (slice_get (ended body) (length replies))
wanted_act conf [] [] work = refl
wanted_act conf [] (reply ∷ replies) work = refl
wanted_act conf (Does worker (Fetches owner n) ∷ body) [] work = refl
wanted_act conf (Does worker (Stores n len) ∷ body) [] work = refl
wanted_act conf (Does worker (Counts n step) ∷ body) [] work = refl
wanted_act conf (Does worker (Fetches owner n) ∷ body) (reply ∷ replies) work = wanted_act conf body replies work.1
wanted_act conf (Does worker (Stores n len) ∷ body) (reply ∷ replies) work = wanted_act conf body replies work.1
wanted_act conf (Does worker (Counts n step) ∷ body) (reply ∷ replies) work = wanted_act conf body replies work.1
wanted_act conf (Watches n ∷ body) [] work = refl
wanted_act conf (Watches n ∷ body) (reply ∷ replies) work = wanted_act conf body replies work.1
wanted_act conf (Ends ∷ body) replies work = absurd work.0

-- all workers' acts before their ends
abbrev pub scripts_of : List (List Act) → List (List Step)
scripts_of bodies = map (λ body. map step_of body) bodies

abbrev pub acts_of : List (List Act) → List (List Act)
acts_of bodies = map ended bodies

abbrev pub AllWork : List (List Act) → Type 0
AllWork bodies = AllByRecursion AreWork bodies

-- the act that a worker is at
abbrev pub act_at : List (List Act) → ℕ → ℕ → Option Act
act_at lists worker k = option_and_then (λ acts. slice_get acts k) (slice_get lists worker)

pub wish_is : (conf : Conf) (bodies : List (List Act)) (p : Play) (worker : ℕ) → AllWork bodies → wish_of conf (scripts_of bodies) p worker ≡ option_map wish_in_act (act_at (acts_of bodies) worker (length (replies_of p worker)))
wish_is conf bodies p worker work = go bodies worker work (replies_of p worker)
  where
    go : (bodies : List (List Act)) (w : ℕ) → AllWork bodies → (replies : List Reply)
        → option_and_then (λ script. wanted conf script replies) (slice_get (scripts_of bodies) w) ≡ option_map wish_in_act (act_at (acts_of bodies) w (length replies))
    go [] w work replies = refl
    go (body ∷ bodies) zero work replies = wanted_act conf body replies work.0
    go (body ∷ bodies) (suc w) work replies = go bodies w work.1 replies

-- ---- the generated ones

abbrev pub drawn_body : ℕ → List Draw → List Act
drawn_body worker draws = map (λ draw. Does worker draw) draws

abbrev pub bodies_from : ℕ → List (List Draw) → List (List Act)
bodies_from worker [] = []
bodies_from worker (draws ∷ others) = drawn_body worker draws ∷ bodies_from (worker + 1) others

abbrev pub watching : List Act
watching = map (λ n. Watches n) (range_with_len 0 8)

-- worker 0 observes
abbrev pub observing : List (List Act) → List (List Act)
observing [] = []
observing (body ∷ bodies) = (body ++ watching) ∷ bodies

pub drawn_steps : (worker : ℕ) (draws : List Draw) → map step_of (drawn_body worker draws) ≡ steps_of_draws worker draws
drawn_steps worker [] = refl
drawn_steps worker (draw ∷ draws) = ap (λ (l : List Step). step_now (call_of worker draw) ∷ l) (drawn_steps worker draws)

scripts_drawn : (worker : ℕ) (draws : List (List Draw)) → scripts_of (bodies_from worker draws) ≡ scripts_from worker draws
scripts_drawn worker [] = refl
scripts_drawn worker (own ∷ draws) = ap (λ (l : List Step). l ∷ scripts_of (bodies_from (worker + 1) draws)) (drawn_steps worker own) ∙ ap (λ (l : List (List Step)). steps_of_draws worker own ∷ l) (scripts_drawn (worker + 1) draws)

pub scripts_observed : (draws : List (List Draw)) → scripts_of (observing (bodies_from 0 draws)) ≡ observed (scripts_from 0 draws)
scripts_observed [] = refl
scripts_observed (own ∷ draws) =
    ap (λ (l : List Step). l ∷ scripts_of (bodies_from 1 draws)) (map-append step_of (drawn_body 0 own) watching ∙ ap (λ (l : List Step). l ++ map step_of watching) (drawn_steps 0 own))
    ∙ ap (λ (l : List (List Step)). (steps_of_draws 0 own ++ counters_read) ∷ l) (scripts_drawn 1 draws)

pub work_drawn : (worker : ℕ) (draws : List Draw) → AreWork (drawn_body worker draws)
work_drawn worker [] = tt
work_drawn worker (draw ∷ draws) = (tt, work_drawn worker draws)

pub work_joined : (a b : List Act) → AreWork a → AreWork b → AreWork (a ++ b)
work_joined [] b h k = k
work_joined (x ∷ a) b h k = (h.0, work_joined a b h.1 k)

work_bodies : (worker : ℕ) (draws : List (List Draw)) → AllWork (bodies_from worker draws)
work_bodies worker [] = tt
work_bodies worker (own ∷ draws) = (work_drawn worker own, work_bodies (worker + 1) draws)

pub work_watching : (ns : List ℕ) → AreWork (map (λ n. Watches n) ns)
work_watching [] = tt
work_watching (n ∷ ns) = (tt, work_watching ns)

pub all_work : (draws : List (List Draw)) → AllWork (observing (bodies_from 0 draws))
all_work [] = tt
all_work (own ∷ draws) = (work_joined (drawn_body 0 own) watching (work_drawn 0 own) (work_watching (range_with_len 0 8)), work_bodies 1 draws)
