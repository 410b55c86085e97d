-- A play of generated scripts, mark by mark.
use Rattle.std.proofs.Common.{◌≡◌, ◌⊎◌, inl, inr, ℕ, zero, suc, ◌+◌, ◌^◌, ◌<◌, ◌≤◌, Bool, true, false, not, cond, if◌then◌else◌, List, [], ◌∷◌, ◌++◌, length, filter, Option, Some, None, slice_get, refl, sym, ap, ◌∙◌, subst, arith}
use Rattle.std.specs.Prelude.{◌==◌, slice_set, sum_by}
use Rattle.std.specs.List.{AllByRecursion, Contains, count_by, range_with_len}
use Rattle.std.proofs.lemmas.Bool.{cases_Bool, eqb-true, eq-eqb, not-true}
use Rattle.std.proofs.lemmas.List.{length-map, length-set}
use Rattle.std.proofs.lemmas.List.Elements.{Contains-append_cases}
use Rattle.std.proofs.lemmas.List.FromFn.{length-range_with_len}
use Rattle.seg_words.specs.Members.{Contains-cases, Contains-filter, none_in_nil, count-cons}
use Rattle.apcu_model.specs.declared.conf.Conf.{Conf}
use Rattle.apcu_model.specs.declared.journal.Mark.{Mark}
use Rattle.apcu_model.specs.declared.request.Reply.{Reply}
use Rattle.apcu_model.specs.Cache.{Row, Cache}
use Rattle.apcu_model.specs.Expiry.{live_row}
use Rattle.apcu_model.specs.History.{is_scalar, opened, opened_at, reply_in}
use Rattle.script_read.specs.Play.{Play, replies_of, event_of, after_wish}
use Rattle.script_read.specs.GeneratedScripts.{Fetches, Stores, Counts, value_key, counter_key}
use Rattle.play_laws.specs.Summary.{is_declined}
use Rattle.play_laws.proofs.CountLemmas.{at_most, count_none, count_filter, pigeons}
use Rattle.play_laws.proofs.GapLemmas.{range_has}
use Rattle.play_laws.proofs.SmallRows.{IsRoomy}
use Rattle.play_laws.proofs.ScriptKeys.{names_of}
use Rattle.play_laws.proofs.Acts.{Act, Does, Watches, Ends, request_of, IsAct, stores_in, times_in, sums_in, Good, IsShort, good_same}
use Rattle.play_laws.proofs.CounterActs.{good_act, not_declined}
use Rattle.play_laws.proofs.ActWishes.{AllWork, acts_of, act_at, wish_in_act}
use Rattle.play_laws.proofs.ActSums.{AllActs, done_sum, done_more, done_most}

-- ---- windows

-- each of a worker, and one for each
pub record Windows (workers : ℕ) (ws : List (ℕ × ℕ)) : Type 0 where
  pub within : (w : ℕ × ℕ) → Contains ws w → w.0 < workers
  pub single : (v : ℕ) → count_by (λ (w : ℕ × ℕ). w.0 == v) ws ≤ 1

few_windows : (workers : ℕ) (ws : List (ℕ × ℕ)) → Windows workers ws → length ws ≤ workers
few_windows workers ws h =
    let most = pigeons {X = ℕ × ℕ} {Y = ℕ} (λ v w. w.0 == v) (range_with_len 0 workers) ws (λ w c. (w.0, range_has 0 workers w.0 (omega arith) (omega (arith, h.within w c)), eq-eqb w.0 w.0 refl)) h.single in
    omega (arith, most, length-range_with_len 0 workers)

abbrev OpensOne : ℕ → List (ℕ × ℕ) → Type 0
OpensOne worker new = (new ≡ []) ⊎ ((n : ℕ) × (new ≡ (worker, n) ∷ []))

opens_at : (worker : ℕ) (o : Option Row) → OpensOne worker (opened_at worker o)
opens_at worker None = inl refl
opens_at worker (Some row) = elim (is_scalar row.graph) as (λ b. OpensOne worker (if b then [] else (worker, row.number) ∷ [])) [ true ↦ inl refl | false ↦ inr (row.number, refl) ]

opens_one : (worker : ℕ) (act : Act) (c : Cache) → OpensOne worker (opened worker 0 (request_of act) c)
opens_one worker (Does own (Fetches owner n)) c = opens_at worker (live_row (value_key owner n) 0 c)
opens_one worker (Does own (Stores n len)) c = inl refl
opens_one worker (Does own (Counts n step)) c = inl refl
opens_one worker (Watches n) c = opens_at worker (live_row (counter_key n) 0 c)
opens_one worker Ends c = inl refl

windows_after : (workers worker : ℕ) (new ws : List (ℕ × ℕ)) → worker < workers → OpensOne worker new → Windows workers ws → Windows workers (new ++ filter (λ (w : ℕ × ℕ). not (w.0 == worker)) ws)
windows_after workers worker new ws within opens h = record { within = inside; single = single }
  where
    rest : List (ℕ × ℕ)
    rest = filter (λ (w : ℕ × ℕ). not (w.0 == worker)) ws

    is_own : (n : ℕ) (w : ℕ × ℕ) → Contains ((worker, n) ∷ []) w → worker ≡ w.0
    is_own n w c = elim (Contains-cases (worker, n) [] w c) [ inl e ↦ ap (λ (x : ℕ × ℕ). x.0) e | inr l ↦ absurd (none_in_nil w l) ]

    inside : (w : ℕ × ℕ) → Contains (new ++ rest) w → w.0 < workers
    inside w c = elim (Contains-append_cases new rest w c) [
      | inl l ↦ elim opens [
        | inl e ↦ absurd (none_in_nil w (subst (λ (x : List (ℕ × ℕ)). Contains x w) e l))
        | inr o ↦ omega (arith, within, is_own o.0 w (subst (λ (x : List (ℕ × ℕ)). Contains x w) o.1 l))
      ]
      | inr l ↦ h.within w (Contains-filter (λ (x : ℕ × ℕ). not (x.0 == worker)) ws w l).0
    ]

    less : (v : ℕ) → count_by (λ (w : ℕ × ℕ). w.0 == v) rest ≤ 1
    less v = omega (arith, h.single v, count_filter (λ (w : ℕ × ℕ). w.0 == v) (λ (w : ℕ × ℕ). not (w.0 == worker)) ws)

    single : (v : ℕ) → count_by (λ (w : ℕ × ℕ). w.0 == v) (new ++ rest) ≤ 1
    single v = elim opens [
      | inl e ↦ subst (λ (x : List (ℕ × ℕ)). count_by (λ (w : ℕ × ℕ). w.0 == v) (x ++ rest) ≤ 1) (sym e) (less v)
      | inr o ↦ subst (λ (x : List (ℕ × ℕ)). count_by (λ (w : ℕ × ℕ). w.0 == v) (x ++ rest) ≤ 1) (sym o.1) (with_own o.0)
    ]
      where
        with_own : (n : ℕ) → count_by (λ (w : ℕ × ℕ). w.0 == v) ((worker, n) ∷ rest) ≤ 1
        with_own n = elim (cases_Bool (worker == v)) [
          | inl t ↦
              let none : count_by (λ (w : ℕ × ℕ). w.0 == v) rest ≡ 0 =
              count_none (λ (w : ℕ × ℕ). w.0 == v) rest (λ w c. subst (λ k. (w.0 == k) ≡ false) (eqb-true worker v t) (not-true (w.0 == worker) (Contains-filter (λ (x : ℕ × ℕ). not (x.0 == worker)) ws w c).1)) in
              omega (arith, none, at_most (worker == v), count-cons (λ (w : ℕ × ℕ). w.0 == v) (worker, n) rest)
          | inr f ↦
              let zero_of : cond {A = ℕ} (worker == v) 1 0 ≡ 0 = ap (λ b. cond {A = ℕ} b 1 0) f in
              omega (arith, zero_of, less v, count-cons (λ (w : ℕ × ℕ). w.0 == v) (worker, n) rest)
        ]

-- ---- what holds of a play

pub record Setting (conf : Conf) (workers : ℕ) (bodies : List (List Act)) : Type 0 where
  pub roomy : IsRoomy conf
  pub most : workers ≤ 64
  pub count : length bodies ≡ workers
  pub work : AllWork bodies
  pub ranged : AllActs (IsAct workers) (acts_of bodies)
  pub short : sum_by (λ (acts : List Act). length acts) (acts_of bodies) < 2 ^ 23

pub record Going (conf : Conf) (workers : ℕ) (bodies : List (List Act)) (p : Play) : Type 0 where
  pub good : Good conf (names_of workers) p.stage.cache (done_sum stores_in (acts_of bodies) p.replies) (λ i. done_sum (times_in i) (acts_of bodies) p.replies) (λ i. done_sum (sums_in i) (acts_of bodies) p.replies)
  pub windows : Windows workers p.stage.windows
  pub count : length p.replies ≡ length (acts_of bodies)

act_ranged : (P : Act → Type 0) (lists : List (List Act)) (worker k : ℕ) (act : Act) → AllActs P lists → act_at lists worker k ≡ Some act → P act
act_ranged P [] worker k act all at = absurd (cc at)
act_ranged P (acts ∷ lists) zero k act all at = own acts k all.0 at
  where
    own : (acts : List Act) (k : ℕ) → AllByRecursion P acts → slice_get acts k ≡ Some act → P act
    own [] k all at = absurd (cc at)
    own (x ∷ acts) zero all at = let same : x ≡ act = cc at in subst P same all.0
    own (x ∷ acts) (suc k) all at = own acts k all.1 at
act_ranged P (acts ∷ lists) (suc worker) k act all at = act_ranged P lists worker k act all.1 at

pub act_within : (lists : List (List Act)) (worker k : ℕ) (act : Act) → act_at lists worker k ≡ Some act → worker < length lists
act_within [] worker k act at = absurd (cc at)
act_within (acts ∷ lists) zero k act at = omega arith
act_within (acts ∷ lists) (suc worker) k act at = omega (arith, act_within lists worker k act at)

low_all : (workers : ℕ) (f : Act → ℕ) (lists : List (List Act)) → ((act : Act) → IsAct workers act → f act ≤ 100) → AllActs (IsAct workers) lists → AllActs (λ act. f act ≤ 100) lists
low_all workers f [] low all = tt
low_all workers f (acts ∷ lists) low all = (own acts all.0, low_all workers f lists low all.1)
  where
    own : (acts : List Act) → AllByRecursion (IsAct workers) acts → AllByRecursion (λ act. f act ≤ 100) acts
    own [] all = tt
    own (x ∷ acts) all = (low x all.0, own acts all.1)

stores_low : (workers : ℕ) (act : Act) → IsAct workers act → stores_in act ≤ 100
stores_low workers (Does own (Fetches owner n)) r = omega arith
stores_low workers (Does own (Stores n len)) r = omega arith
stores_low workers (Does own (Counts n step)) r = omega arith
stores_low workers (Watches n) r = omega arith
stores_low workers Ends r = omega arith

sums_low : (workers i : ℕ) (act : Act) → IsAct workers act → sums_in i act ≤ 100
sums_low workers i (Does own (Fetches owner n)) r = omega arith
sums_low workers i (Does own (Stores n len)) r = omega arith
sums_low workers i (Does own (Counts n step)) r = go (n == i)
  where
    go : (b : Bool) → cond {A = ℕ} b step 0 ≤ 100
    go true = omega (arith, r.1)
    go false = omega arith
sums_low workers i (Watches n) r = omega arith
sums_low workers i Ends r = omega arith

are_short : (conf : Conf) (workers : ℕ) (bodies : List (List Act)) (p : Play) → Setting conf workers bodies → IsShort (done_sum stores_in (acts_of bodies) p.replies) (λ i. done_sum (sums_in i) (acts_of bodies) p.replies)
are_short conf workers bodies p s = record {
  stores = omega (arith, s.short, done_most stores_in (acts_of bodies) p.replies (low_all workers stores_in (acts_of bodies) (stores_low workers) s.ranged));
  sums = λ i. omega (arith, s.short, done_most (sums_in i) (acts_of bodies) p.replies (low_all workers (sums_in i) (acts_of bodies) (sums_low workers i) s.ranged));
}

pub going_mark : (conf : Conf) (workers : ℕ) (bodies : List (List Act)) (p : Play) (mark : Mark) (act : Act) → Setting conf workers bodies → act_at (acts_of bodies) mark.worker (length (replies_of p mark.worker)) ≡ Some act → Going conf workers bodies p
    → Going conf workers bodies (after_wish p mark (wish_in_act act))
going_mark conf workers bodies p mark act s at g = record {
  good = good_same conf (names_of workers) (after_wish p mark (wish_in_act act)).stage.cache (done stores_in + stores_in act) (after stores_in) (λ i. done (times_in i) + times_in i act) (λ i. after (times_in i)) (λ i. done (sums_in i) + sums_in i act) (λ i. after (sums_in i))
      (more stores_in) (λ i. more (times_in i)) (λ i. more (sums_in i))
      (good_act conf workers p.stage mark.mask act (done stores_in) (λ i. done (times_in i)) (λ i. done (sums_in i)) s.roomy s.most (omega (arith, s.most, few_windows workers p.stage.windows g.windows)) (are_short conf workers bodies p s) (act_ranged (IsAct workers) lists mark.worker k act s.ranged at) g.good);
  windows = windows_after workers mark.worker (opened mark.worker 0 (request_of act) p.stage.cache) p.stage.windows (omega (arith, s.count, act_within lists mark.worker k act at, length-map bodies (λ (body : List Act). body ++ Ends ∷ []))) (opens_one mark.worker act p.stage.cache) g.windows;
  count = count;
}
  where
    lists : List (List Act)
    lists = acts_of bodies

    k : ℕ
    k = length (replies_of p mark.worker)

    reply : Reply
    reply = reply_in p.stage (event_of mark (wish_in_act act))

    done : (Act → ℕ) → ℕ
    done f = done_sum f lists p.replies

    after : (Act → ℕ) → ℕ
    after f = done_sum f lists (slice_set p.replies mark.worker (replies_of p mark.worker ++ reply ∷ []))

    more : (f : Act → ℕ) → after f ≡ done f + f act
    more f = done_more f lists p.replies mark.worker act reply g.count at

    count : length (slice_set p.replies mark.worker (replies_of p mark.worker ++ reply ∷ [])) ≡ length lists
    count = length-set {A = List Reply} p.replies mark.worker (replies_of p mark.worker ++ reply ∷ []) ∙ g.count

-- nor is any store or increment answered no
pub going_stored : (conf : Conf) (workers : ℕ) (bodies : List (List Act)) (p : Play) (mark : Mark) (act : Act) → Setting conf workers bodies → act_at (acts_of bodies) mark.worker (length (replies_of p mark.worker)) ≡ Some act → Going conf workers bodies p
    → is_declined (request_of act) (reply_in p.stage (event_of mark (wish_in_act act))) ≡ false
going_stored conf workers bodies p mark act s at g =
    let lists = acts_of bodies in
    not_declined conf workers p.stage mark.mask act (done_sum stores_in lists p.replies) (λ i. done_sum (times_in i) lists p.replies) (λ i. done_sum (sums_in i) lists p.replies) s.roomy s.most (omega (arith, s.most, few_windows workers p.stage.windows g.windows)) (are_short conf workers bodies p s)
    (act_ranged (IsAct workers) lists mark.worker (length (replies_of p mark.worker)) act s.ranged at) g.good
