-- Generated scripts: how many there are, and how many events each may make.
use Rattle.std.proofs.Common.{◌≡◌, ℕ, zero, suc, ◌+◌, ◌-◌, ◌%◌, ◌^◌, ◌<◌, ◌≤◌, List, [], ◌∷◌, length, map, slice_get, slice_index, Some, refl, sym, ap, ap₂, ◌∙◌, arith}
use Rattle.std.specs.Prelude.{replicate, slice_set}
use Rattle.std.specs.List.{range_with_len}
use Rattle.std.proofs.lemmas.List.{length-map}
use Rattle.std.proofs.lemmas.Option.{slice_get_within}
use Rattle.apcu_model.specs.declared.conf.Clock.TheVariants as clocks
use Rattle.script_read.specs.declared.script.Step.{Step}
use Rattle.script_read.specs.Budgets.{events_in}
use Rattle.script_read.specs.Clock.{timed, all_timed}
use Rattle.script_read.specs.GeneratedScripts.{Draw, Fetches, Stores, Counts, state_after, draws_from, draws_of, steps_of_draws, scripts_from, generated}
use Rattle.crew_play.specs.GeneratedRuns.{HaveEnough, watched_budgets}

-- ---- under the clock of lines a script is as it is

line_timed : (script : List Step) → timed clocks.Line script ≡ script
line_timed [] = refl
line_timed (step ∷ steps) = ap (λ (l : List Step). step ∷ l) (line_timed steps)

pub all_lines : (scripts : List (List Step)) → all_timed clocks.Line scripts ≡ scripts
all_lines [] = refl
all_lines (script ∷ scripts) = ap₂ (λ (s : List Step) (l : List (List Step)). s ∷ l) (line_timed script) (all_lines scripts)

-- ---- draws

draws_counted : (workers calls state : ℕ) → length (draws_from workers calls state) ≡ calls
draws_counted workers zero state = refl
draws_counted workers (suc calls) state = ap suc (draws_counted workers calls (state_after state))

-- what stands at a place of a mapped list
get_mapped : {A B : Type 0} (f : A → B) (xs : List A) (k : ℕ) (y : B) → slice_get (map f xs) k ≡ Some y → (x : A) × (f x ≡ y)
get_mapped f [] k y h = absurd (cc (h))
get_mapped f (x ∷ xs) zero y h = (x, cc (h))
get_mapped f (x ∷ xs) (suc k) y h = get_mapped f xs k y h

-- the script of a worker is that of this many draws
pub record IsDrawn (worker calls : ℕ) (script : List Step) : Type 0 where
  pub draws : List Draw
  pub is : script ≡ steps_of_draws worker draws
  pub count : length draws ≡ calls

from_draws : (a : ℕ) (all : List (List Draw)) (k : ℕ) (script : List Step) → slice_get (scripts_from a all) k ≡ Some script → (own : List Draw) × (slice_get all k ≡ Some own) × (script ≡ steps_of_draws (a + k) own)
from_draws a [] k script h = absurd (cc (h))
from_draws a (own ∷ all) zero script h =
    let same : a ≡ a + 0 = omega arith in
    let is : steps_of_draws a own ≡ script = cc (h) in
    (own, refl, sym is ∙ ap (λ w. steps_of_draws w own) same)
from_draws a (own ∷ all) (suc k) script h =
    let same : (a + 1) + k ≡ a + suc k = omega arith in
    let r = from_draws (a + 1) all k script h in
    (r.0, r.1, r.2 ∙ ap (λ w. steps_of_draws w r.0) same)

pub drawn_at : (seed workers calls w : ℕ) (script : List Step) → slice_get (generated seed workers calls) w ≡ Some script → IsDrawn w calls script
drawn_at seed workers calls w script h =
    let r = from_draws 0 (draws_of seed workers calls) w script h in
    let x = get_mapped (λ worker. draws_from workers calls ((seed + worker) % 2 ^ 64)) (range_with_len 0 workers) w r.0 r.1 in
    let here : 0 + w ≡ w = omega arith in
    record {
      draws = r.0;
      is = r.2 ∙ ap (λ v. steps_of_draws v r.0) here;
      count = ap (λ (l : List Draw). length l) (sym x.1) ∙ draws_counted workers calls ((seed + x.0) % 2 ^ 64);
    }

scripts_counted : (a : ℕ) (all : List (List Draw)) → length (scripts_from a all) ≡ length all
scripts_counted a [] = refl
scripts_counted a (own ∷ all) = ap suc (scripts_counted (a + 1) all)

range_counted : (a n : ℕ) → length (range_with_len a n) ≡ n
range_counted a zero = refl
range_counted a (suc n) = ap suc (range_counted (a + 1) n)

pub workers_counted : (seed workers calls : ℕ) → length (generated seed workers calls) ≡ workers
workers_counted seed workers calls =
    scripts_counted 0 (draws_of seed workers calls)
    ∙ (length-map (range_with_len 0 workers) (λ worker. draws_from workers calls ((seed + worker) % 2 ^ 64)) ∙ range_counted 0 workers)

-- ---- events

-- each call is one event
one_event : (slots worker : ℕ) (draws : List Draw) → events_in slots (steps_of_draws worker draws) ≡ length draws
one_event slots worker [] = refl
one_event slots worker (Fetches owner n ∷ draws) = let rest = one_event slots worker draws in omega (arith, rest)
one_event slots worker (Stores n len ∷ draws) = let rest = one_event slots worker draws in omega (arith, rest)
one_event slots worker (Counts n step ∷ draws) = let rest = one_event slots worker draws in omega (arith, rest)

events_at : (slots seed workers calls w : ℕ) (script : List Step) → slice_get (generated seed workers calls) w ≡ Some script → events_in slots script ≡ calls
events_at slots seed workers calls w script h =
    let d = drawn_at seed workers calls w script h in
    ap (events_in slots) d.is ∙ (one_event slots w d.draws ∙ d.count)

index_replicated : (n x k : ℕ) → k < n → slice_index (replicate n x) k ≡ x
index_replicated zero x k h = absurd (omega (arith, h))
index_replicated (suc n) x zero h = refl
index_replicated (suc n) x (suc k) h = index_replicated n x k (omega (arith, h))

budget_of : (workers calls w : ℕ) → w < workers → calls + 1 ≤ slice_index (watched_budgets workers calls) w
budget_of workers calls zero h = omega arith
budget_of workers calls (suc k) h =
    let other = index_replicated (workers - 1) (calls + 1) k (omega (arith, h)) in
    omega (arith, other)

pub enough_drawn : (slots seed workers calls : ℕ) → HaveEnough slots (watched_budgets workers calls) (generated seed workers calls)
enough_drawn slots seed workers calls = record {
  each = λ w script h.
      let few : w < workers = omega (arith, slice_get_within (generated seed workers calls) w script h, workers_counted seed workers calls) in
      omega (arith, events_at slots seed workers calls w script h, budget_of workers calls w few);
  first = λ script h. omega (arith, events_at slots seed workers calls 0 script h);
}

-- ---- budgets

pub first_set : (n x y : ℕ) → 1 ≤ n → slice_set (replicate n x) 0 y ≡ y ∷ replicate (n - 1) x
first_set zero x y some = absurd (omega (arith, some))
first_set (suc n) x y some = let same : suc n - 1 ≡ n = omega arith in ap (λ k. y ∷ replicate k x) (sym same)

replicate_counted : (n x : ℕ) → length (replicate n x) ≡ n
replicate_counted zero x = refl
replicate_counted (suc n) x = ap suc (replicate_counted n x)

pub budgets_counted : (workers calls : ℕ) → 1 ≤ workers → length (watched_budgets workers calls) ≡ workers
budgets_counted workers calls some = omega (arith, some, replicate_counted (workers - 1) (calls + 1))

pub without_nine : (n m : ℕ) → n + 9 ≤ m → n ≤ m
without_nine n m h = omega (arith, h)
