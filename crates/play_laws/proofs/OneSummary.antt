-- All plays of generated scripts come to one summary.
use Rattle.std.proofs.Common.{◌≡◌, inl, inr, ℕ, zero, suc, ◌+◌, ◌*◌, ◌^◌, ◌<◌, ◌≤◌, Bool, true, false, if◌then◌else◌, List, [], ◌∷◌, ◌++◌, length, map, Option, Some, None, slice_get, append_assoc, refl, sym, ap, ◌∙◌, subst, arith}
use Rattle.std.specs.Prelude.{pos, ℤ, option_map, unwrap_or, sum_by, is_none, nat_lt}
use Rattle.std.specs.List.{AllByRecursion, Contains, count_by, range_with_len}
use Rattle.std.specs.Option.{option_and_then}
use Rattle.std.proofs.lemmas.Bool.{and_parts}
use Rattle.std.proofs.lemmas.List.{length-append, length-map, append-nil}
use Rattle.std.proofs.lemmas.List.Sums.{sum_by-cons}
use Rattle.seg_words.specs.Members.{none_in_nil, Contains-first, Contains-later}
use Rattle.play_laws.proofs.GapLemmas.{in_range}
use Rattle.php_graph.specs.declared.kind.Kind.{Kind}
use Rattle.apcu_model.specs.declared.conf.Conf.{Conf}
use Rattle.apcu_model.specs.declared.journal.Mark.{Mark}
use Rattle.apcu_model.specs.declared.request.Reply.{Reply}
use Rattle.apcu_model.specs.Cache.{empty_cache}
use Rattle.apcu_model.specs.History.{is_legal_mask, reply_in}
use Rattle.script_read.specs.declared.script.Step.{Step}
use Rattle.script_read.specs.Play.{Wish, Play, replies_of, wish_of, event_of, after_wish, nothing_played, played_from, played, wanted, are_done, is_complete_play}
use Rattle.script_read.specs.GeneratedScripts.{Draw, draws_of, generated, scripts_from}
use Rattle.play_laws.specs.Observer.{observed, IsObservedLast}
use Rattle.play_laws.specs.Summary.{IsLarge, is_declined, Summary, number_found, summary_of, stored_by, times_by, counted_by, total_by, summary_due}
use Rattle.play_laws.proofs.CountLemmas.{count_alike, count_none}
use Rattle.play_laws.proofs.SmallRows.{IsRoomy}
use Rattle.play_laws.proofs.ScriptKeys.{names_of}
use Rattle.play_laws.proofs.Acts.{Act, Does, Ends, IsAct, stores_in, times_in, sums_in, counter_value, Good, good_same}
use Rattle.play_laws.proofs.CounterActs.{zero_value, some_value, same_or_not}
use Rattle.play_laws.proofs.ActWishes.{AllWork, ended, scripts_of, step_of, acts_of, act_at, wish_in_act, wish_is, wanted_act, watching, drawn_body, bodies_from, observing, scripts_observed, all_work}
use Rattle.play_laws.proofs.ActSums.{done_sum, done_none, done_whole, AreAtEnd}
use Rattle.play_laws.proofs.GeneratedPlays.{Setting, Going, going_mark, going_stored}
use Rattle.std.proofs.Math.Nat.{suc-mul}
use Rattle.play_laws.proofs.ScriptDraws.{AreDrawn, Weighs, all_drawn, drawn_workers, acts_others, acts_first, acts_count, others_even, total_all}
use Rattle.play_laws.proofs.ObservedCounters.{total, watched_bodies, found_value, Watched, AreEven, watched_mark}

-- ---- from mark to mark

-- what a mark that is played does: its worker does its act
by_acts : (conf : Conf) (bodies : List (List Act)) (p q : Play) (mark : Mark) (marks : List Mark) → AllWork bodies → played_from conf (scripts_of bodies) p (mark ∷ marks) ≡ Some q
    → (act : Act) × (act_at (acts_of bodies) mark.worker (length (replies_of p mark.worker)) ≡ Some act) × (played_from conf (scripts_of bodies) (after_wish p mark (wish_in_act act)) marks ≡ Some q)
by_acts conf bodies p q mark marks work h =
    go (is_legal_mask (length (scripts_of bodies)) mark.worker p.stage mark.mask) (act_at (acts_of bodies) mark.worker (length (replies_of p mark.worker))) refl
    (subst (λ (o : Option Wish). option_and_then (λ (x : Play). played_from conf (scripts_of bodies) x marks) (if is_legal_mask (length (scripts_of bodies)) mark.worker p.stage mark.mask then option_and_then (λ wish. Some (after_wish p mark wish)) o else None) ≡ Some q)
    (wish_is conf bodies p mark.worker work) h)
  where
    go : (b : Bool) (o : Option Act) → act_at (acts_of bodies) mark.worker (length (replies_of p mark.worker)) ≡ o
        → option_and_then (λ (x : Play). played_from conf (scripts_of bodies) x marks) (if b then option_and_then (λ wish. Some (after_wish p mark wish)) (option_map wish_in_act o) else None) ≡ Some q
        → (act : Act) × (act_at (acts_of bodies) mark.worker (length (replies_of p mark.worker)) ≡ Some act) × (played_from conf (scripts_of bodies) (after_wish p mark (wish_in_act act)) marks ≡ Some q)
    go false o at e = absurd (cc e)
    go true None at e = absurd (cc e)
    go true (Some act) at e = (act, at, e)

going_all : (conf : Conf) (workers : ℕ) (bodies : List (List Act)) (marks : List Mark) (p q : Play) → Setting conf workers bodies → played_from conf (scripts_of bodies) p marks ≡ Some q → Going conf workers bodies p → Going conf workers bodies q
going_all conf workers bodies [] p q s h g = let same : p ≡ q = cc h in subst (Going conf workers bodies) same g
going_all conf workers bodies (mark ∷ marks) p q s h g =
    let t = by_acts conf bodies p q mark marks s.work h in
    going_all conf workers bodies marks (after_wish p mark (wish_in_act t.0)) q s t.2 (going_mark conf workers bodies p mark t.0 s t.1 g)

watched_all : (conf : Conf) (workers : ℕ) (first : List Act) (others : List (List Act)) (journal before marks : List Mark) (p q : Play) → Setting conf workers (watched_bodies first others) → AreEven first others
    → IsObservedLast workers (length first) journal → journal ≡ before ++ marks → played_from conf (scripts_of (watched_bodies first others)) p marks ≡ Some q → Watched conf workers first others before p → Watched conf workers first others (before ++ marks) q
watched_all conf workers first others journal before [] p q s even last split h w =
    let same : p ≡ q = cc h in
    subst (λ l. Watched conf workers first others l q) (sym (append-nil before)) (subst (Watched conf workers first others before) same w)
watched_all conf workers first others journal before (mark ∷ marks) p q s even last split h w =
    let t = by_acts conf (watched_bodies first others) p q mark marks s.work h in
    let joined : (before ++ mark ∷ []) ++ marks ≡ before ++ mark ∷ marks = append_assoc before (mark ∷ []) marks in
    subst (λ l. Watched conf workers first others l q) joined
    (watched_all conf workers first others journal (before ++ mark ∷ []) marks (after_wish p mark (wish_in_act t.0)) q s even last (split ∙ sym joined) t.2
    (watched_mark conf workers first others before p mark t.0 s even (last before marks mark split) t.1 w))

-- ---- the start

no_replies : (scripts : List (List Step)) → AllByRecursion (λ (own : List Reply). length own ≡ 0) (map {A = List Step} {B = List Reply} (λ script. []) scripts)
no_replies [] = tt
no_replies (script ∷ scripts) = (refl, no_replies scripts)

none_yet : (scripts : List (List Step)) (worker : ℕ) → unwrap_or (slice_get (map {A = List Step} {B = List Reply} (λ script. []) scripts) worker) [] ≡ []
none_yet [] worker = refl
none_yet (script ∷ scripts) zero = refl
none_yet (script ∷ scripts) (suc worker) = none_yet scripts worker

good_start : (conf : Conf) (names : List (List ℕ)) → Good conf names (empty_cache conf) 0 (λ i. 0) (λ i. 0)
good_start conf names = record {
  laid = record {
    shape = refl;
    named = λ r h. absurd (none_in_nil r h);
    keys = λ key. omega arith;
    numbers = λ n. omega arith;
    places = λ n. omega arith;
    below = λ r h. absurd (none_in_nil r h);
    small = λ r h. absurd (none_in_nil r h);
    few = omega arith;
  };
  expunges = refl;
  inserts = omega (arith, count_none {X = ℕ} (λ i. nat_lt 0 0) (range_with_len 0 8) (λ i h. refl));
  next = refl;
  values = λ i h. refl;
  none = λ i h. refl;
}

going_start : (conf : Conf) (workers : ℕ) (bodies : List (List Act)) → Going conf workers bodies (nothing_played conf (scripts_of bodies))
going_start conf workers bodies = record {
  good = good_same conf (names_of workers) (empty_cache conf) 0 (done stores_in) (λ i. 0) (λ i. done (times_in i)) (λ i. 0) (λ i. done (sums_in i)) (none stores_in) (λ i. none (times_in i)) (λ i. none (sums_in i)) (good_start conf (names_of workers));
  windows = record { within = λ w h. absurd (none_in_nil w h); single = λ v. omega arith };
  count = length-map {A = List Step} {B = List Reply} (scripts_of bodies) (λ script. []) ∙ (length-map bodies (λ (body : List Act). map step_of body) ∙ sym (length-map bodies ended));
}
  where
    replies : List (List Reply)
    replies = map {A = List Step} {B = List Reply} (λ script. []) (scripts_of bodies)

    done : (Act → ℕ) → ℕ
    done f = done_sum f (acts_of bodies) replies

    none : (f : Act → ℕ) → done f ≡ 0
    none f = done_none f (acts_of bodies) replies (no_replies (scripts_of bodies))

watched_start : (conf : Conf) (workers : ℕ) (first : List Act) (others : List (List Act)) → Watched conf workers first others [] (nothing_played conf (scripts_of (watched_bodies first others)))
watched_start conf workers first others = record {
  going = going_start conf workers (watched_bodies first others);
  counted = λ worker h. ap (λ (l : List Reply). length l) (none_yet (scripts_of (watched_bodies first others)) worker);
  seen = λ i reply h is. let none : slice_get [] (length first + i) ≡ Some reply = subst (λ (l : List Reply). slice_get l (length first + i) ≡ Some reply) (none_yet (scripts_of (watched_bodies first others)) 0) is in absurd (cc none);
}

-- ---- the end

nothing_left : (acts : List Act) (k : ℕ) → slice_get acts k ≡ None → length acts ≤ k
nothing_left [] k e = omega arith
nothing_left (x ∷ acts) zero e = absurd (cc e)
nothing_left (x ∷ acts) (suc k) e = omega (arith, nothing_left acts k e)

at_end : (conf : Conf) (bodies : List (List Act)) (replies : List (List Reply)) → AllWork bodies → are_done conf (scripts_of bodies) replies ≡ true → AreAtEnd (acts_of bodies) replies
at_end conf [] replies work done worker acts at = absurd (cc at)
at_end conf (body ∷ bodies) [] work done worker acts at = absurd (cc done)
at_end conf (body ∷ bodies) (own ∷ replies) work done zero acts at =
    let parts = and_parts (is_none (wanted conf (map step_of body) own)) (are_done conf (scripts_of bodies) replies) done in
    let same : ended body ≡ acts = cc at in
    subst (λ (l : List Act). length l ≤ length own) same (nothing_left (ended body) (length own) (none (slice_get (ended body) (length own)) (subst (λ (o : Option Wish). is_none o ≡ true) (wanted_act conf body own work.0) parts.0)))
  where
    none : (o : Option Act) → is_none (option_map wish_in_act o) ≡ true → o ≡ None
    none None e = refl
    none (Some act) e = absurd (cc e)
at_end conf (body ∷ bodies) (own ∷ replies) work done (suc worker) acts at =
    let parts = and_parts (is_none (wanted conf (map step_of body) own)) (are_done conf (scripts_of bodies) replies) done in
    at_end conf bodies replies work.1 parts.1 worker acts at

-- ---- the generated scripts

weighs_stores : Weighs stores_in stored_by
weighs_stores = record { does = λ worker draw. refl; light = record { look = λ n. refl; end = refl } }

weighs_times : (i : ℕ) → Weighs (times_in i) (times_by i)
weighs_times i = record { does = λ worker draw. refl; light = record { look = λ n. refl; end = refl } }

weighs_sums : (i : ℕ) → Weighs (sums_in i) (counted_by i)
weighs_sums i = record { does = λ worker draw. refl; light = record { look = λ n. refl; end = refl } }

-- such a shape has room
roomy_so : (conf : Conf) → IsLarge conf → IsRoomy conf
roomy_so conf large = record { even = large.good.slots_even; slots = large.slots; words = large.words; one = large.one }

setting_of : (conf : Conf) (calls : ℕ) (own : List Draw) (draws : List (List Draw)) → IsLarge conf → length (own ∷ draws) ≤ 64 → length (own ∷ draws) * (calls + 1) ≤ 4194304 → AreDrawn calls (own ∷ draws) → Setting conf (length (own ∷ draws)) (observing (bodies_from 0 (own ∷ draws)))
setting_of conf calls own draws large most few drawn = record {
  roomy = roomy_so conf large;
  most = most;
  count = omega (arith, bodies_count 1 draws);
  work = all_work (own ∷ draws);
  ranged = (subst (λ (l : List Act). AllByRecursion (IsAct (length (own ∷ draws))) l) (sym joined) (acts_first (length (own ∷ draws)) own (omega arith) drawn.0.1), acts_others (length (own ∷ draws)) calls 1 draws (omega arith) drawn.1);
  short = short;
}
  where
    bodies_count : (worker : ℕ) (draws : List (List Draw)) → length (bodies_from worker draws) ≡ length draws
    bodies_count worker [] = refl
    bodies_count worker (own ∷ draws) = ap suc (bodies_count (worker + 1) draws)

    joined : ended (drawn_body 0 own ++ watching) ≡ drawn_body 0 own ++ (watching ++ Ends ∷ [])
    joined = append_assoc (drawn_body 0 own) watching (Ends ∷ [])

    short : sum_by (λ (acts : List Act). length acts) (acts_of (observing (bodies_from 0 (own ∷ draws)))) < 2 ^ 23
    short =
        let first : length (ended (drawn_body 0 own ++ watching)) ≡ length own + 9 = ap (λ (l : List Act). length l) joined ∙ omega (arith, length-append (drawn_body 0 own) (watching ++ Ends ∷ []), length-map own (λ draw. Does 0 draw)) in
        let product : length (own ∷ draws) * (calls + 1) ≡ length draws * (calls + 1) + (calls + 1) = suc-mul (length draws) (calls + 1) in
        omega (arith, first, few, product, drawn.0.0, acts_count calls 1 draws drawn.1, sum_by-cons (λ (acts : List Act). length acts) (ended (drawn_body 0 own ++ watching)) (acts_of (bodies_from 1 draws)))

-- no expunge comes, however far the play is
pub none_expunged : (conf : Conf) (seed workers calls : ℕ) (journal : List Mark) (p : Play) → IsLarge conf → 1 ≤ workers → workers ≤ 64 → workers * (calls + 1) ≤ 4194304
    → played conf (observed (generated seed workers calls)) journal ≡ Some p → p.stage.cache.expunges ≡ 0
none_expunged conf seed workers calls journal p large some most few h = go (draws_of seed workers calls) (drawn_workers seed workers calls) (all_drawn seed workers calls) h
  where
    go : (draws : List (List Draw)) → length draws ≡ workers → AreDrawn calls draws → played conf (observed (scripts_from 0 draws)) journal ≡ Some p → p.stage.cache.expunges ≡ 0
    go [] count drawn h = absurd (omega (arith, count, some))
    go (own ∷ draws) count drawn h =
        let s = setting_of conf calls own draws large (omega (arith, count, most)) (subst (λ n. n * (calls + 1) ≤ 4194304) (sym count) few) drawn in
        let bodies = observing (bodies_from 0 (own ∷ draws)) in
        let h' : played conf (scripts_of bodies) journal ≡ Some p = subst (λ (l : List (List Step)). played conf l journal ≡ Some p) (sym (scripts_observed (own ∷ draws))) h in
        (going_all conf (length (own ∷ draws)) bodies journal (nothing_played conf (scripts_of bodies)) p s h' (going_start conf (length (own ∷ draws)) bodies)).good.expunges

-- and no store or increment is answered no
pub all_stored : (conf : Conf) (seed workers calls : ℕ) (journal : List Mark) (p : Play) (mark : Mark) (wish : Wish) → IsLarge conf → 1 ≤ workers → workers ≤ 64 → workers * (calls + 1) ≤ 4194304
    → played conf (observed (generated seed workers calls)) journal ≡ Some p → wish_of conf (observed (generated seed workers calls)) p mark.worker ≡ Some wish → is_declined wish.request (reply_in p.stage (event_of mark wish)) ≡ false
all_stored conf seed workers calls journal p mark wish large some most few h w = go (draws_of seed workers calls) (drawn_workers seed workers calls) (all_drawn seed workers calls) h w
  where
    go : (draws : List (List Draw)) → length draws ≡ workers → AreDrawn calls draws → played conf (observed (scripts_from 0 draws)) journal ≡ Some p → wish_of conf (observed (scripts_from 0 draws)) p mark.worker ≡ Some wish
        → is_declined wish.request (reply_in p.stage (event_of mark wish)) ≡ false
    go [] count drawn h w = absurd (omega (arith, count, some))
    go (own ∷ draws) count drawn h w =
        let s = setting_of conf calls own draws large (omega (arith, count, most)) (subst (λ n. n * (calls + 1) ≤ 4194304) (sym count) few) drawn in
        let bodies = observing (bodies_from 0 (own ∷ draws)) in
        let scripts = scripts_observed (own ∷ draws) in
        let h' : played conf (scripts_of bodies) journal ≡ Some p = subst (λ (l : List (List Step)). played conf l journal ≡ Some p) (sym scripts) h in
        let g = going_all conf (length (own ∷ draws)) bodies journal (nothing_played conf (scripts_of bodies)) p s h' (going_start conf (length (own ∷ draws)) bodies) in
        let w' : wish_of conf (scripts_of bodies) p mark.worker ≡ Some wish = subst (λ (l : List (List Step)). wish_of conf l p mark.worker ≡ Some wish) (sym scripts) w in
        at (act_at (acts_of bodies) mark.worker (length (replies_of p mark.worker))) refl (sym (wish_is conf bodies p mark.worker s.work) ∙ w') s g
      where
        at : (o : Option Act) → act_at (acts_of (observing (bodies_from 0 (own ∷ draws)))) mark.worker (length (replies_of p mark.worker)) ≡ o → option_map wish_in_act o ≡ Some wish → Setting conf (length (own ∷ draws)) (observing (bodies_from 0 (own ∷ draws)))
            → Going conf (length (own ∷ draws)) (observing (bodies_from 0 (own ∷ draws))) p → is_declined wish.request (reply_in p.stage (event_of mark wish)) ≡ false
        at None is e s g = absurd (cc e)
        at (Some act) is e s g =
            let same : wish_in_act act ≡ wish = cc e in
            subst (λ (x : Wish). is_declined x.request (reply_in p.stage (event_of mark x)) ≡ false) same (going_stored conf (length (own ∷ draws)) (observing (bodies_from 0 (own ∷ draws))) p mark act s is g)

-- ---- the summary

map_alike : {X : Type 0} (f g : ℕ → X) (xs : List ℕ) → ((x : ℕ) → Contains xs x → f x ≡ g x) → map f xs ≡ map g xs
map_alike f g [] same = refl
map_alike {X = X} f g (x ∷ xs) same = ap (λ (y : X). y ∷ map f xs) (same x (Contains-first x xs)) ∙ ap (λ (l : List X). g x ∷ l) (map_alike f g xs (λ y c. same y (Contains-later x xs y c)))

some_reply : (replies : List Reply) (k : ℕ) → k < length replies → (reply : Reply) × (slice_get replies k ≡ Some reply)
some_reply [] k h = absurd (omega (arith, h))
some_reply (reply ∷ replies) zero h = (reply, refl)
some_reply (reply ∷ replies) (suc k) h = some_reply replies k (omega (arith, h))

number_told : (t u : ℕ) → (t ≡ 0 → u ≡ 0) → number_found (Some (found_value (counter_value t u))) ≡ pos u
number_told t u none = elim (same_or_not t 0) [
  | inl z ↦ ap (λ (o : Option (List Kind)). number_found (Some (found_value o))) (zero_value t u z) ∙ sym (ap pos (none z))
  | inr d ↦ ap (λ (o : Option (List Kind)). number_found (Some (found_value o))) (some_value t u d)
]

told_so : (conf : Conf) (calls : ℕ) (own : List Draw) (draws : List (List Draw)) (journal : List Mark) (p : Play) → Setting conf (length (own ∷ draws)) (observing (bodies_from 0 (own ∷ draws))) → AreDrawn calls (own ∷ draws)
    → are_done conf (scripts_of (observing (bodies_from 0 (own ∷ draws)))) p.replies ≡ true → Watched conf (length (own ∷ draws)) (drawn_body 0 own) (bodies_from 1 draws) journal p → summary_of calls p ≡ summary_due (own ∷ draws)
told_so conf calls own draws journal p s drawn done w =
    ap (λ (n : ℕ). let x : Summary = record { inserts = n; counters = (summary_of calls p).counters } in x) inserts
    ∙ ap (λ (l : List ℤ). let x : Summary = record { inserts = (summary_due all).inserts; counters = l } in x) (map_alike (λ i. number_found (slice_get (replies_of p 0) (calls + i))) (λ i. pos (total_by (counted_by i) all)) (range_with_len 0 8) (λ i c. counter i (omega (arith, (in_range 0 8 i c).1))))
  where
    all : List (List Draw)
    all = own ∷ draws

    bodies : List (List Act)
    bodies = observing (bodies_from 0 all)

    lists : List (List Act)
    lists = acts_of bodies

    end : AreAtEnd lists p.replies
    end = at_end conf bodies p.replies s.work done

    whole : (f : Act → ℕ) (g : Draw → ℕ) → Weighs f g → done_sum f lists p.replies ≡ total_by g all
    whole f g weighs = done_whole f lists p.replies w.going.count end ∙ total_all f g all weighs

    inserts : p.stage.cache.inserts ≡ total_by stored_by all + count_by (λ i. nat_lt 0 (total_by (times_by i) all)) (range_with_len 0 8)
    inserts =
        omega (arith, w.going.good.inserts, whole stores_in stored_by weighs_stores, count_alike (λ i. nat_lt 0 (done_sum (times_in i) lists p.replies)) (λ i. nat_lt 0 (total_by (times_by i) all)) (range_with_len 0 8) (λ i. ap (λ n. nat_lt 0 n) (whole (times_in i) (times_by i) (weighs_times i))))

    counter : (i : ℕ) → i < 8 → number_found (slice_get (replies_of p 0) (calls + i)) ≡ pos (total_by (counted_by i) all)
    counter i h =
        let first_count : length (drawn_body 0 own) ≡ calls = length-map own (λ draw. Does 0 draw) ∙ drawn.0.0 in
        let acts_count : length (ended (drawn_body 0 own ++ watching)) ≡ calls + 9 = ap (λ (l : List Act). length l) (append_assoc (drawn_body 0 own) watching (Ends ∷ [])) ∙ omega (arith, length-append (drawn_body 0 own) (watching ++ Ends ∷ []), first_count) in
        let long = end 0 (ended (drawn_body 0 own ++ watching)) refl in
        let r = some_reply (replies_of p 0) (calls + i) (omega (arith, acts_count, long, h)) in
        let is = w.seen i r.0 h (ap (λ n. slice_get (replies_of p 0) (n + i)) first_count ∙ r.1) in
        let none : total (times_in i) lists ≡ 0 → total (sums_in i) lists ≡ 0 =
        λ z. sym (done_whole (sums_in i) lists p.replies w.going.count end) ∙ w.going.good.none i (done_whole (times_in i) lists p.replies w.going.count end ∙ z) in
        ap number_found r.1 ∙ (ap (λ (x : Reply). number_found (Some x)) is ∙ (number_told (total (times_in i) lists) (total (sums_in i) lists) none ∙ ap pos (total_all (sums_in i) (counted_by i) all (weighs_sums i))))

-- all legal and complete journals give the one summary
pub agreed : (conf : Conf) (seed workers calls : ℕ) (journal : List Mark) (p : Play) → IsLarge conf → 1 ≤ workers → workers ≤ 64 → workers * (calls + 1) ≤ 4194304
    → played conf (observed (generated seed workers calls)) journal ≡ Some p → is_complete_play conf (observed (generated seed workers calls)) (played conf (observed (generated seed workers calls)) journal) ≡ true → IsObservedLast workers calls journal
    → summary_of calls p ≡ summary_due (draws_of seed workers calls)
agreed conf seed workers calls journal p large some most few h complete last = go (draws_of seed workers calls) (drawn_workers seed workers calls) (all_drawn seed workers calls) h complete
  where
    go : (draws : List (List Draw)) → length draws ≡ workers → AreDrawn calls draws → played conf (observed (scripts_from 0 draws)) journal ≡ Some p
        → is_complete_play conf (observed (scripts_from 0 draws)) (played conf (observed (scripts_from 0 draws)) journal) ≡ true → summary_of calls p ≡ summary_due draws
    go [] count drawn h done = absurd (omega (arith, count, some))
    go (own ∷ draws) count drawn h done =
        let s = setting_of conf calls own draws large (omega (arith, count, most)) (subst (λ n. n * (calls + 1) ≤ 4194304) (sym count) few) drawn in
        let bodies = observing (bodies_from 0 (own ∷ draws)) in
        let scripts = scripts_observed (own ∷ draws) in
        let h' : played conf (scripts_of bodies) journal ≡ Some p = subst (λ (l : List (List Step)). played conf l journal ≡ Some p) (sym scripts) h in
        let done' : are_done conf (scripts_of bodies) p.replies ≡ true = subst (λ (o : Option Play). is_complete_play conf (scripts_of bodies) o ≡ true) h' (subst (λ (l : List (List Step)). is_complete_play conf l (played conf l journal) ≡ true) (sym scripts) done) in
        let first_count : length (drawn_body 0 own) ≡ calls = length-map own (λ draw. Does 0 draw) ∙ drawn.0.0 in
        let even : AreEven (drawn_body 0 own) (bodies_from 1 draws) = record { each = λ v acts at. others_even calls 1 draws drawn.1 v acts at ∙ ap (λ n. n + 1) (sym first_count) } in
        let last' : IsObservedLast (length (own ∷ draws)) (length (drawn_body 0 own)) journal = subst (λ n. IsObservedLast n (length (drawn_body 0 own)) journal) (sym count) (subst (λ n. IsObservedLast workers n journal) (sym first_count) last) in
        told_so conf calls own draws journal p s drawn done'
        (watched_all conf (length (own ∷ draws)) (drawn_body 0 own) (bodies_from 1 draws) journal [] journal (nothing_played conf (scripts_of bodies)) p s even last' refl h' (watched_start conf (length (own ∷ draws)) (drawn_body 0 own) (bodies_from 1 draws)))
