-- The draws of generated scripts: how many, in which ranges, and what they come to.
use Rattle.std.proofs.Common.{◌≡◌, ℕ, zero, suc, ◌+◌, ◌*◌, ◌%◌, ◌/◌, ◌^◌, ◌<◌, ◌≤◌, Bool, true, false, if◌then◌else◌, List, [], ◌∷◌, ◌++◌, length, map, append_assoc, Some, slice_get, refl, sym, ap, ◌∙◌, arith}
use Rattle.std.specs.Prelude.{◌==◌, sum_by}
use Rattle.std.specs.List.{AllByRecursion, range_with_len}
use Rattle.std.proofs.Math.Nat.{suc-mul}
use Rattle.std.proofs.lemmas.List.{length-append, length-map}
use Rattle.std.proofs.lemmas.List.Sums.{sum_by-cons}
use Rattle.std.proofs.lemmas.List.FromFn.{length-range_with_len}
use Rattle.script_read.specs.GeneratedScripts.{Draw, Fetches, Stores, Counts, draw_of, draws_from, draws_of, drawn_number, state_after}
use Rattle.play_laws.specs.Summary.{total_by}
use Rattle.play_laws.proofs.Acts.{Act, Does, Watches, Ends, IsAct}
use Rattle.play_laws.proofs.ActWishes.{ended, acts_of, watching, drawn_body, bodies_from, observing}
use Rattle.play_laws.proofs.ActSums.{AllActs}
use Rattle.play_laws.proofs.ObservedCounters.{Light, total}

-- ---- ranges

abbrev pub IsDraw : Draw → Type 0
IsDraw (Fetches owner n) = Unit {0}
IsDraw (Stores n len) = (n < 16) × (len < 200)
IsDraw (Counts n step) = (n < 8) × (step < 100)

drawn_in : (workers r : ℕ) → IsDraw (draw_of workers r)
drawn_in workers r = go (r % 4 == 3) (r % 4 == 2) (r / 4) (r / 32) (r / 64)
  where
    go : (a b : Bool) (x y z : ℕ) → IsDraw (if a then Counts (x % 8) (y % 100) else if b then Stores (x % 16) (z % 200) else Fetches (z % workers) (x % 16))
    go true b x y z = (omega arith, omega arith)
    go false true x y z = (omega arith, omega arith)
    go false false x y z = tt

-- this many draws of each worker, all in their ranges
abbrev pub AreDrawn : ℕ → List (List Draw) → Type 0
AreDrawn calls draws = AllByRecursion (λ own. (length own ≡ calls) × AllByRecursion IsDraw own) draws

own_drawn : (workers calls state : ℕ) → (length (draws_from workers calls state) ≡ calls) × AllByRecursion IsDraw (draws_from workers calls state)
own_drawn workers zero state = (refl, tt)
own_drawn workers (suc calls) state =
    let rest = own_drawn workers calls (state_after state) in
    (ap suc rest.0, (drawn_in workers (drawn_number (state_after state)), rest.1))

pub all_drawn : (seed workers calls : ℕ) → AreDrawn calls (draws_of seed workers calls)
all_drawn seed workers calls = go (range_with_len 0 workers)
  where
    go : (ws : List ℕ) → AreDrawn calls (map (λ worker. draws_from workers calls ((seed + worker) % 2 ^ 64)) ws)
    go [] = tt
    go (w ∷ ws) = (own_drawn workers calls ((seed + w) % 2 ^ 64), go ws)

pub drawn_workers : (seed workers calls : ℕ) → length (draws_of seed workers calls) ≡ workers
drawn_workers seed workers calls = length-map (range_with_len 0 workers) (λ worker. draws_from workers calls ((seed + worker) % 2 ^ 64)) ∙ length-range_with_len 0 workers

-- ---- acts in their ranges

acts_drawn : (workers worker : ℕ) (own : List Draw) (later : List Act) → worker < workers → AllByRecursion IsDraw own → AllByRecursion (IsAct workers) later → AllByRecursion (IsAct workers) (drawn_body worker own ++ later)
acts_drawn workers worker [] later h all rest = rest
acts_drawn workers worker (Fetches owner n ∷ own) later h all rest = (tt, acts_drawn workers worker own later h all.1 rest)
acts_drawn workers worker (Stores n len ∷ own) later h all rest = ((h, all.0.0, all.0.1), acts_drawn workers worker own later h all.1 rest)
acts_drawn workers worker (Counts n step ∷ own) later h all rest = (all.0, acts_drawn workers worker own later h all.1 rest)

pub acts_others : (workers calls worker : ℕ) (draws : List (List Draw)) → worker + length draws ≤ workers → AreDrawn calls draws → AllActs (IsAct workers) (acts_of (bodies_from worker draws))
acts_others workers calls worker [] h all = tt
acts_others workers calls worker (own ∷ draws) h all =
    (acts_drawn workers worker own (Ends ∷ []) (omega (arith, h)) all.0.1 (tt, tt), acts_others workers calls (worker + 1) draws (omega (arith, h)) all.1)

pub acts_first : (workers : ℕ) (own : List Draw) → 0 < workers → AllByRecursion IsDraw own → AllByRecursion (IsAct workers) (drawn_body 0 own ++ (watching ++ Ends ∷ []))
acts_first workers own h all = acts_drawn workers 0 own (watching ++ Ends ∷ []) h all (omega arith, (omega arith, (omega arith, (omega arith, (omega arith, (omega arith, (omega arith, (omega arith, (tt, tt)))))))))

-- ---- how many acts

pub ended_length : (worker : ℕ) (own : List Draw) → length (ended (drawn_body worker own)) ≡ length own + 1
ended_length worker own = omega (arith, length-append (drawn_body worker own) (Ends ∷ []), length-map own (λ draw. Does worker draw))

pub acts_count : (calls worker : ℕ) (draws : List (List Draw)) → AreDrawn calls draws → sum_by (λ (acts : List Act). length acts) (acts_of (bodies_from worker draws)) ≡ length draws * (calls + 1)
acts_count calls worker [] all = omega arith
acts_count calls worker (own ∷ draws) all =
    let rest = acts_count calls (worker + 1) draws all.1 in
    let one = ended_length worker own in
    let mine : length (ended (drawn_body worker own)) ≡ calls + 1 = omega (arith, one, all.0.0) in
    let step : length (own ∷ draws) * (calls + 1) ≡ length draws * (calls + 1) + (calls + 1) = suc-mul (length draws) (calls + 1) in
    sum_by-cons (λ (acts : List Act). length acts) (ended (drawn_body worker own)) (acts_of (bodies_from (worker + 1) draws)) ∙ omega (arith, rest, mine, step)

pub others_even : (calls worker : ℕ) (draws : List (List Draw)) → AreDrawn calls draws → (v : ℕ) (acts : List Act) → slice_get (map ended (bodies_from worker draws)) v ≡ Some acts → length acts ≡ calls + 1
others_even calls worker [] all v acts at = absurd (cc at)
others_even calls worker (own ∷ draws) all zero acts at =
    let same : ended (drawn_body worker own) ≡ acts = cc at in
    sym (ap (λ (l : List Act). length l) same) ∙ omega (arith, ended_length worker own, all.0.0)
others_even calls worker (own ∷ draws) all (suc v) acts at = others_even calls (worker + 1) draws all.1 v acts at

-- ---- what they come to

-- the sum over acts is that over draws
pub record Weighs (f : Act → ℕ) (g : Draw → ℕ) : Type 0 where
  pub does : (worker : ℕ) (draw : Draw) → f (Does worker draw) ≡ g draw
  pub light : Light f

sum_drawn : (f : Act → ℕ) (g : Draw → ℕ) (worker : ℕ) (own : List Draw) (later : List Act) → Weighs f g → sum_by f later ≡ 0 → sum_by f (drawn_body worker own ++ later) ≡ sum_by g own
sum_drawn f g worker [] later w none = none
sum_drawn f g worker (draw ∷ own) later w none =
    omega (arith, sum_by-cons f (Does worker draw) (drawn_body worker own ++ later), sum_by-cons g draw own, w.does worker draw, sum_drawn f g worker own later w none)

end_light : (f : Act → ℕ) → Light f → sum_by f (Ends ∷ []) ≡ 0
end_light f light = omega (arith, sum_by-cons f Ends [], light.end)

looks_light : (f : Act → ℕ) (ns : List ℕ) → Light f → sum_by f (map (λ n. Watches n) ns ++ Ends ∷ []) ≡ 0
looks_light f [] light = end_light f light
looks_light f (n ∷ ns) light = omega (arith, sum_by-cons f (Watches n) (map (λ n. Watches n) ns ++ Ends ∷ []), light.look n, looks_light f ns light)

total_others : (f : Act → ℕ) (g : Draw → ℕ) (worker : ℕ) (draws : List (List Draw)) → Weighs f g → total f (acts_of (bodies_from worker draws)) ≡ total_by g draws
total_others f g worker [] w = refl
total_others f g worker (own ∷ draws) w =
    omega (arith, sum_by-cons (λ acts. sum_by f acts) (ended (drawn_body worker own)) (acts_of (bodies_from (worker + 1) draws)), sum_by-cons (λ own. sum_by g own) own draws, sum_drawn f g worker own (Ends ∷ []) w (end_light f w.light), total_others f g (worker + 1) draws w)

pub total_all : (f : Act → ℕ) (g : Draw → ℕ) (draws : List (List Draw)) → Weighs f g → total f (acts_of (observing (bodies_from 0 draws))) ≡ total_by g draws
total_all f g [] w = refl
total_all f g (own ∷ draws) w =
    let joined : sum_by f (ended (drawn_body 0 own ++ watching)) ≡ sum_by g own = ap (λ (l : List Act). sum_by f l) (append_assoc (drawn_body 0 own) watching (Ends ∷ [])) ∙ sum_drawn f g 0 own (watching ++ Ends ∷ []) w (looks_light f (range_with_len 0 8) w.light) in
    omega (arith, sum_by-cons (λ acts. sum_by f acts) (ended (drawn_body 0 own ++ watching)) (acts_of (bodies_from 1 draws)), sum_by-cons (λ own. sum_by g own) own draws, joined, total_others f g 1 draws w)
