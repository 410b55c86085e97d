-- What the observer finds, and the summary.
use Rattle.std.proofs.Common.{◌≡◌, ◌⊎◌, inl, inr, ℕ, zero, suc, ◌+◌, ◌<◌, ◌≤◌, cond, List, [], ◌∷◌, ◌++◌, length, map, Option, Some, None, slice_get, append_assoc, refl, sym, ap, ◌∙◌, subst, arith}
use Rattle.std.specs.Prelude.{◌==◌, option_map, unwrap_or, slice_set, sum_by}
use Rattle.std.specs.List.{AllByRecursion, range_with_len}
use Rattle.std.proofs.lemmas.Bool.{false_from_ne_true, eqb-true, eq-eqb}
use Rattle.std.proofs.lemmas.List.{length-append, length-map}
use Rattle.std.proofs.lemmas.List.Sums.{sum_by-cons}
use Rattle.std.proofs.lemmas.Option.{slice_get_within}
use Rattle.seg_words.specs.Members.{count-cons, count-append}
use Rattle.php_graph.specs.declared.kind.Kind.{Kind}
use Rattle.apcu_model.specs.declared.conf.Conf.{Conf}
use Rattle.apcu_model.specs.declared.journal.Mark.{Mark}
use Rattle.apcu_model.specs.declared.request.Reply.{Reply}
use Rattle.apcu_model.specs.declared.request.Reply.TheVariants as answers
use Rattle.apcu_model.specs.Cache.{Row, Cache}
use Rattle.apcu_model.specs.Expiry.{live_row}
use Rattle.apcu_model.specs.History.{held_places, reply_in}
use Rattle.apcu_model.specs.Sequential.{found_in}
use Rattle.script_read.specs.Play.{Play, replies_of, event_of, after_wish}
use Rattle.play_laws.specs.Parts.{get_joined}
use Rattle.script_read.specs.GeneratedScripts.{counter_key}
use Rattle.play_laws.specs.Observer.{times_marked}
use Rattle.play_laws.proofs.NewRows.{value_at, live_is}
use Rattle.play_laws.proofs.Acts.{Act, Watches, Ends, times_in, sums_in, counter_value}
use Rattle.play_laws.proofs.CounterActs.{same_or_not}
use Rattle.play_laws.proofs.ActWishes.{ended, acts_of, act_at, wish_in_act, watching}
use Rattle.play_laws.proofs.ActSums.{made_sum, done_sum, done_whole, made_first, made_whole}
use Rattle.play_laws.proofs.GeneratedPlays.{Setting, Going, going_mark, act_within}

-- worker 0 with its own acts and its looks, and the others
abbrev pub watched_bodies : List Act → List (List Act) → List (List Act)
watched_bodies first others = (first ++ watching) ∷ others

abbrev pub total : (Act → ℕ) → List (List Act) → ℕ
total f lists = sum_by (λ acts. sum_by f acts) lists

-- a look and an end add nothing
pub record Light (f : Act → ℕ) : Type 0 where
  pub look : (n : ℕ) → f (Watches n) ≡ 0
  pub end : f Ends ≡ 0

abbrev looks : List Act
looks = watching ++ Ends ∷ []

light_looks : (f : Act → ℕ) (ns : List ℕ) → Light f → AllByRecursion (λ act. f act ≡ 0) (map (λ n. Watches n) ns ++ Ends ∷ [])
light_looks f [] light = (light.end, tt)
light_looks f (n ∷ ns) light = (light.look n, light_looks f ns light)

first_acts : (first : List Act) → ended (first ++ watching) ≡ first ++ looks
first_acts first = append_assoc first watching (Ends ∷ [])

sum_first : (f : Act → ℕ) (first : List Act) → Light f → sum_by f (ended (first ++ watching)) ≡ sum_by f first
sum_first f first light =
    let all = first ++ looks in
    ap (λ (l : List Act). sum_by f l) (first_acts first) ∙ (sym (made_whole f all (length all) (omega arith)) ∙ made_first f first looks (length all) (light_looks f (range_with_len 0 8) light) (omega (arith, length-append first looks)))

-- once the others have ended and worker 0 has made its own acts, all is counted
done_settled : (f : Act → ℕ) (first : List Act) (others : List (List Act)) (replies : List (List Reply)) → Light f → length replies ≡ length (acts_of (watched_bodies first others)) → length first ≤ length (unwrap_or (slice_get replies 0) [])
    → ((worker : ℕ) (acts : List Act) → slice_get (map ended others) worker ≡ Some acts → length acts ≤ length (unwrap_or (slice_get replies (suc worker)) []))
    → done_sum f (acts_of (watched_bodies first others)) replies ≡ total f (acts_of (watched_bodies first others))
done_settled f first others [] light count own end = absurd (omega (arith, count))
done_settled f first others (r ∷ replies) light count own end =
    let here : made_sum f (ended (first ++ watching)) (length r) ≡ sum_by f first = ap (λ (l : List Act). made_sum f l (length r)) (first_acts first) ∙ made_first f first looks (length r) (light_looks f (range_with_len 0 8) light) own in
    omega (arith, here, sum_first f first light, done_whole f (map ended others) replies (omega (arith, count)) end, sum_by-cons (λ acts. sum_by f acts) (ended (first ++ watching)) (map ended others))

-- ---- a look

abbrev pub found_value : Option (List Kind) → Reply
found_value None = answers.Absent
found_value (Some graph) = answers.Found graph

found_so : (o : Option Row) → found_in o ≡ found_value (option_map (λ (row : Row). row.graph) o)
found_so None = refl
found_so (Some row) = refl

looked_at : (held : List ℕ) (i t u : ℕ) (c : Cache) → value_at (counter_key i) c.rows ≡ counter_value t u → found_in (live_row (counter_key i) 0 c) ≡ found_value (counter_value t u)
looked_at held i t u c is = found_so (live_row (counter_key i) 0 c) ∙ ap found_value (ap (λ (o : Option Row). option_map (λ (row : Row). row.graph) o) (live_is (counter_key i) c) ∙ is)

get_past : (xs ys : List Act) (i : ℕ) → slice_get (xs ++ ys) (length xs + i) ≡ slice_get ys i
get_past [] ys i = let same : 0 + i ≡ i = omega arith in ap (λ k. slice_get ys k) same
get_past (x ∷ xs) ys i =
    let count : length (x ∷ xs) + i ≡ suc (length xs + i) = omega arith in
    ap (λ k. slice_get (x ∷ (xs ++ ys)) k) count ∙ get_past xs ys i

look_at : (a n i : ℕ) (ys : List Act) → i < n → slice_get (map (λ n. Watches n) (range_with_len a n) ++ ys) i ≡ Some (Watches (a + i))
look_at a zero i ys h = absurd (omega (arith, h))
look_at a (suc n) zero ys h = let same : a ≡ a + 0 = omega arith in ap (λ k. Some (Watches k)) same
look_at a (suc n) (suc i) ys h =
    let same : (a + 1) + i ≡ a + suc i = omega arith in
    look_at (a + 1) n i ys (omega (arith, h)) ∙ ap (λ k. Some (Watches k)) same

look_there : (first : List Act) (others : List (List Act)) (i : ℕ) → i < 8 → act_at (acts_of (watched_bodies first others)) 0 (length first + i) ≡ Some (Watches i)
look_there first others i h =
    let same : 0 + i ≡ i = omega arith in
    ap (λ (l : List Act). slice_get l (length first + i)) (first_acts first) ∙ (get_past first looks i ∙ (look_at 0 8 i (Ends ∷ []) h ∙ ap (λ k. Some (Watches k)) same))

-- ---- replies after a mark

set_same : {X : Type 0} (xs : List X) (i : ℕ) (x : X) → i < length xs → slice_get (slice_set xs i x) i ≡ Some x
set_same [] i x h = absurd (omega (arith, h))
set_same (y ∷ xs) zero x h = refl
set_same (y ∷ xs) (suc i) x h = set_same xs i x (omega (arith, h))

set_other : {X : Type 0} (xs : List X) (i j : ℕ) (x : X) → (j ≡ i → ⊥) → slice_get (slice_set xs i x) j ≡ slice_get xs j
set_other [] i j x d = refl
set_other (y ∷ xs) zero zero x d = absurd (d refl)
set_other (y ∷ xs) zero (suc j) x d = refl
set_other (y ∷ xs) (suc i) zero x d = refl
set_other (y ∷ xs) (suc i) (suc j) x d = set_other xs i j x (λ e. d (ap suc e))

pub record Watched (conf : Conf) (workers : ℕ) (first : List Act) (others : List (List Act)) (before : List Mark) (p : Play) : Type 0 where
  pub going : Going conf workers (watched_bodies first others) p
  pub counted : (worker : ℕ) → worker < workers → length (replies_of p worker) ≡ times_marked worker before
  pub seen : (i : ℕ) (reply : Reply) → i < 8 → slice_get (replies_of p 0) (length first + i) ≡ Some reply
      → reply ≡ found_value (counter_value (total (times_in i) (acts_of (watched_bodies first others))) (total (sums_in i) (acts_of (watched_bodies first others))))

-- the number of the workers' own acts
pub record AreEven (first : List Act) (others : List (List Act)) : Type 0 where
  pub each : (worker : ℕ) (acts : List Act) → slice_get (map ended others) worker ≡ Some acts → length acts ≡ length first + 1

pub watched_mark : (conf : Conf) (workers : ℕ) (first : List Act) (others : List (List Act)) (before : List Mark) (p : Play) (mark : Mark) (act : Act) → Setting conf workers (watched_bodies first others) → AreEven first others
    → (mark.worker ≡ 0 → length first ≤ times_marked 0 before → (worker : ℕ) → 0 < worker → worker < workers → times_marked worker before ≡ length first + 1)
    → act_at (acts_of (watched_bodies first others)) mark.worker (length (replies_of p mark.worker)) ≡ Some act → Watched conf workers first others before p → Watched conf workers first others (before ++ mark ∷ []) (after_wish p mark (wish_in_act act))
watched_mark conf workers first others before p mark act s even last at w = record {
  going = going_mark conf workers bodies p mark act s at w.going;
  counted = λ worker h. count worker h (same_or_not worker mark.worker);
  seen = λ i reply h is. see i reply h (same_or_not 0 mark.worker) is;
}
  where
    bodies : List (List Act)
    bodies = watched_bodies first others

    lists : List (List Act)
    lists = acts_of bodies

    reply : Reply
    reply = reply_in p.stage (event_of mark (wish_in_act act))

    q : Play
    q = after_wish p mark (wish_in_act act)

    within : mark.worker < length p.replies
    within = omega (arith, w.going.count, act_within lists mark.worker (length (replies_of p mark.worker)) act at)

    there : mark.worker < workers
    there = omega (arith, w.going.count, within, s.count, length-map bodies ended)

    own_replies : replies_of q mark.worker ≡ replies_of p mark.worker ++ reply ∷ []
    own_replies = ap (λ (o : Option (List Reply)). unwrap_or o []) (set_same p.replies mark.worker (replies_of p mark.worker ++ reply ∷ []) within)

    other_replies : (worker : ℕ) → (worker ≡ mark.worker → ⊥) → replies_of q worker ≡ replies_of p worker
    other_replies worker d = ap (λ (o : Option (List Reply)). unwrap_or o []) (set_other p.replies mark.worker worker (replies_of p mark.worker ++ reply ∷ []) d)

    times : (worker : ℕ) → times_marked worker (before ++ mark ∷ []) ≡ times_marked worker before + cond {A = ℕ} (mark.worker == worker) 1 0
    times worker = omega (arith, count-append (λ (x : Mark). x.worker == worker) before (mark ∷ []), count-cons (λ (x : Mark). x.worker == worker) mark [])

    count : (worker : ℕ) → worker < workers → (worker ≡ mark.worker) ⊎ (worker ≡ mark.worker → ⊥) → length (replies_of q worker) ≡ times_marked worker (before ++ mark ∷ [])
    count worker h (inl same) =
        let one : cond {A = ℕ} (mark.worker == worker) 1 0 ≡ 1 = ap (λ b. cond {A = ℕ} b 1 0) (eq-eqb mark.worker worker (sym same)) in
        let mine : length (replies_of q worker) ≡ length (replies_of p worker) + 1 =
        subst (λ v. length (replies_of q v) ≡ length (replies_of p v) + 1) (sym same) (ap (λ (l : List Reply). length l) own_replies ∙ length-append (replies_of p mark.worker) (reply ∷ [])) in
        omega (arith, one, mine, times worker, w.counted worker h)
    count worker h (inr d) =
        let none : cond {A = ℕ} (mark.worker == worker) 1 0 ≡ 0 = ap (λ b. cond {A = ℕ} b 1 0) (false_from_ne_true (mark.worker == worker) (λ t. d (sym (eqb-true mark.worker worker t)))) in
        omega (arith, none, ap (λ (l : List Reply). length l) (other_replies worker d), times worker, w.counted worker h)

    due : ℕ → Reply
    due i = found_value (counter_value (total (times_in i) lists) (total (sums_in i) lists))

    -- the look is made when all is counted
    new_reply : (i : ℕ) → i < 8 → 0 ≡ mark.worker → length (replies_of p mark.worker) ≡ length first + i → reply ≡ due i
    new_reply i h zeroth k =
        let first_count : length (replies_of p 0) ≡ length first + i = subst (λ v. length (replies_of p v) ≡ length first + i) (sym zeroth) k in
        let is : Some act ≡ Some (Watches i) = sym at ∙ (ap (λ v. act_at lists v (length (replies_of p mark.worker))) (sym zeroth) ∙ (ap (λ n. act_at lists 0 n) k ∙ look_there first others i h)) in
        let act_is : act ≡ Watches i = cc is in
        let some : 0 < workers = omega (arith, there) in
        let ends = last (sym zeroth) (omega (arith, first_count, w.counted 0 some)) in
        let settled : (f : Act → ℕ) → Light f → done_sum f lists p.replies ≡ total f lists =
        λ f light. done_settled f first others p.replies light w.going.count (omega (arith, first_count))
        (λ worker acts g. at_end worker acts g (ends (suc worker) (omega arith))) in
        let value : value_at (counter_key i) p.stage.cache.rows ≡ counter_value (total (times_in i) lists) (total (sums_in i) lists) =
        w.going.good.values i h ∙ (ap (λ n. counter_value n (done_sum (sums_in i) lists p.replies)) (settled (times_in i) (record { look = λ n. refl; end = refl })) ∙ ap (λ n. counter_value (total (times_in i) lists) n) (settled (sums_in i) (record { look = λ n. refl; end = refl }))) in
        ap (λ (x : Act). reply_in p.stage (event_of mark (wish_in_act x))) act_is ∙ looked_at (held_places p.stage mark.mask) i (total (times_in i) lists) (total (sums_in i) lists) p.stage.cache value
      where
        at_end : (worker : ℕ) (acts : List Act) → slice_get (map ended others) worker ≡ Some acts → (suc worker < workers → times_marked (suc worker) before ≡ length first + 1) → length acts ≤ length (unwrap_or (slice_get p.replies (suc worker)) [])
        at_end worker acts g ends =
            let inside : suc worker < workers = omega (arith, slice_get_within (map ended others) worker acts g, s.count, length-map others ended) in
            omega (arith, even.each worker acts g, ends inside, w.counted (suc worker) inside)

    see : (i : ℕ) (r : Reply) → i < 8 → (0 ≡ mark.worker) ⊎ (0 ≡ mark.worker → ⊥) → slice_get (replies_of q 0) (length first + i) ≡ Some r → r ≡ due i
    see i r h (inr d) is = w.seen i r h (sym (ap (λ (l : List Reply). slice_get l (length first + i)) (other_replies 0 d)) ∙ is)
    see i r h (inl zeroth) is =
        elim (get_joined (replies_of p mark.worker) (reply ∷ []) (length first + i) r (subst (λ (l : List Reply). slice_get l (length first + i) ≡ Some r) (ap (λ v. replies_of q v) zeroth ∙ own_replies) is)) [
          | inl old ↦ w.seen i r h (ap (λ v. slice_get (replies_of p v) (length first + i)) zeroth ∙ old)
          | inr new ↦ last_one new.0 new.1 new.2
        ]
      where
        last_one : (j : ℕ) → length first + i ≡ length (replies_of p mark.worker) + j → slice_get (reply ∷ []) j ≡ Some r → r ≡ due i
        last_one zero k g = let same : reply ≡ r = cc g in sym same ∙ new_reply i h zeroth (omega (arith, k))
        last_one (suc j) k g = absurd (cc g)
