-- The writer's log after each change.
use Rattle.std.proofs.Common.{◌≡◌, ◌≢◌, ℕ, zero, suc, ◌+◌, ◌-◌, ◌<◌, ◌≤◌, ◌==◌, Bool, true, false, cond, List, [], ◌∷◌, ◌++◌, length, take, drop, sum, slice_index, Option, Some, None, refl, ap, sym, ◌∙◌, subst, arith, append_assoc, length-append}
use Rattle.std.proofs.lemmas.Bool.Decides.{nat_tests}
use Rattle.std.proofs.lemmas.List.{append-nil, take-append-drop}
use Rattle.std.proofs.Math.Seq.{take-suc}
use Rattle.std.proofs.lemmas.List.Sums.{sum_by-append}
use mathlib.Core.Option.{some, some-injective, some-ne-none}
use mathlib.Core.List.{IsPrefix}
use native.Mathlib.Decide.{dec_le}
use lib.ListN.{get_elem?}
use Rattle.apcu_model.specs.declared.request.Event.{Event}
use Rattle.pin_table.specs.declared.views.Known.{Known}
use Rattle.pin_table.specs.declared.views.EventLog.{EventLog}
use Rattle.std.specs.List.{last_or}
use Rattle.apcu_model.specs.declared.request.Request.TheVariants as request
use Rattle.pin_table.specs.Events.{event, events_of, fetched_last, is_fetch, HasRetired}
use Rattle.pin_table.specs.Views.{is_in_hand, has_worker, in_hand, newcomer, with_newcomer, with_hand, with_event, known_after, seen_all, with_closed}
use Rattle.pin_table.specs.Order.{Fits, LogInOrder, PassInOrder}
use Rattle.pin_table.proofs.WindowLists.{differs, unlike, alike}

pub prefix_self : {A : Type 0} (xs : List A) → IsPrefix xs xs
prefix_self xs = ([], append-nil xs)

pub prefix_trans : {A : Type 0} (xs ys zs : List A) → IsPrefix xs ys → IsPrefix ys zs → IsPrefix xs zs
prefix_trans xs ys zs p q = (p.0 ++ q.0, sym (append_assoc xs p.0 q.0) ∙ (ap (λ w. w ++ q.0) p.1 ∙ q.1))

pub prefix_more : {A : Type 0} (xs ys : List A) (y : A) → IsPrefix xs ys → IsPrefix xs (ys ++ y ∷ [])
prefix_more xs ys y p = prefix_trans xs ys (ys ++ y ∷ []) p (y ∷ [], refl)

-- one more event, of this worker or of another
pub events_after : (w : ℕ) (es : List Event) (e : Event) (b : Bool) → (e.worker == w) ≡ b → events_of w (es ++ e ∷ []) ≡ cond b (events_of w es ++ e ∷ []) (events_of w es)
events_after w [] e true is = rw is refl
events_after w [] e false is = rw is refl
events_after w (x ∷ xs) e b is = go (x.worker == w) (events_after w xs e b is)
  where
    go : (c : Bool) → events_of w (xs ++ e ∷ []) ≡ cond b (events_of w xs ++ e ∷ []) (events_of w xs)
        → cond c (x ∷ events_of w (xs ++ e ∷ [])) (events_of w (xs ++ e ∷ [])) ≡ cond b (cond c (x ∷ events_of w xs) (events_of w xs) ++ e ∷ []) (cond c (x ∷ events_of w xs) (events_of w xs))
    go false ih = ih
    go true ih = elim b as (λ v. events_of w (xs ++ e ∷ []) ≡ cond v (events_of w xs ++ e ∷ []) (events_of w xs) → x ∷ events_of w (xs ++ e ∷ []) ≡ cond v ((x ∷ events_of w xs) ++ e ∷ []) (x ∷ events_of w xs))
        [ true ↦ λ h. ap (λ t. x ∷ t) h | false ↦ λ h. ap (λ t. x ∷ t) h ] ih

-- what the last event of a worker is
pub fetched_after : (w : ℕ) (es : List Event) (e : Event) (b : Bool) → fetched_last w (es ++ e ∷ []) b ≡ cond (e.worker == w) (is_fetch e.request) (fetched_last w es b)
fetched_after w [] e b = refl
fetched_after w (x ∷ xs) e b = fetched_after w xs e (cond (x.worker == w) (is_fetch x.request) b)

pub fetched_own : (w : ℕ) (es : List Event) (b : Bool) → fetched_last w (events_of w es) b ≡ fetched_last w es b
fetched_own w [] b = refl
fetched_own w (e ∷ es) b = go (e.worker == w) refl (fetched_own w es)
  where
    go : (c : Bool) → (e.worker == w) ≡ c → ((b : Bool) → fetched_last w (events_of w es) b ≡ fetched_last w es b) → fetched_last w (cond c (e ∷ events_of w es) (events_of w es)) b ≡ fetched_last w es (cond c (is_fetch e.request) b)
    go true is later = ap (λ c. fetched_last w (events_of w es) (cond c (is_fetch e.request) b)) is ∙ later (is_fetch e.request)
    go false is later = later b

pub fetched_nothing : (w : ℕ) (es : List Event) → events_of w es ≡ [] → fetched_last w es false ≡ false
fetched_nothing w es e = sym (fetched_own w es false) ∙ ap (λ l. fetched_last w l false) e

pub last_after : {A : Type 0} (o : Option A) (es : List A) (e : A) → last_or o (es ++ e ∷ []) ≡ Some e
last_after o [] e = refl
last_after o (x ∷ xs) e = last_after (Some x) xs e

-- what the last event is tells whether the last of its worker is a fetch
fetched_by_last : (w : ℕ) (o : Event) (es : List Event) (e : Event) (b : Bool) → last_or (Some o) es ≡ Some e → (e.worker == w) ≡ true → fetched_last w es (cond (o.worker == w) (is_fetch o.request) b) ≡ is_fetch e.request
fetched_by_last w o [] e b last mine =
    let same : e ≡ o = cc last in
    subst (λ (x : Event). cond (x.worker == w) (is_fetch x.request) b ≡ is_fetch e.request) same (rw mine refl)
fetched_by_last w o (x ∷ xs) e b last mine = fetched_by_last w x xs e (cond (o.worker == w) (is_fetch o.request) b) last mine

pub fetched_retired : (w : ℕ) (es : List Event) → HasRetired w es → fetched_last w es false ≡ false
fetched_retired w [] r = absurd (cc r.1)
fetched_retired w (x ∷ xs) r = fetched_by_last w x xs (event w 0 request.Retire r.0) false r.1 (alike w w refl)

lt_of_not-le' : (a b : ℕ) → ¬ (suc b ≤ a) → a ≤ b
lt_of_not-le' a b h = grind arith

-- where the worker w has the seat n
abbrev pub moved : (ℕ → ℕ) → ℕ → ℕ → ℕ → ℕ
moved place w n v = cond (v == w) n (place v)

pub moved_here : (place : ℕ → ℕ) (w n : ℕ) → moved place w n w ≡ n
moved_here place w n = rw (alike w w refl) refl

pub moved_else : (place : ℕ → ℕ) (w n v : ℕ) → v ≢ w → moved place w n v ≡ place v
moved_else place w n v h = rw (unlike v w h) refl

not_among : (ps : List Known) (w k : ℕ) (q : Known) → has_worker w ps ≡ false → get_elem? ps k ≡ some q → q.worker ≢ w
not_among [] w k q h e = absurd (some-ne-none q (sym e))
not_among (p ∷ ps) w zero q h e =
    let same : p ≡ q = some-injective p q e in
    let first : (p.worker == w) ≡ false = grind (arith, nat_tests) in
    subst (λ (r : Known). r.worker ≢ w) same (differs p.worker w first)
not_among (p ∷ ps) w (suc k) q h e = not_among ps w k q (grind (arith, nat_tests)) e

-- a new worker
fits_newcomer : (b : EventLog) (p : Known) → Fits b p → Fits (with_newcomer b) p
fits_newcomer b p f = record { made = omega (arith, f.made); seen = f.seen; own = f.own; saw_own = f.saw_own; budget = f.budget }

made_bounded : (b : EventLog) → LogInOrder b → (w : ℕ) → w ≤ b.made → Dec (suc w ≤ b.made) → length (events_of w b.history) ≤ slice_index b.budgets w
made_bounded b ok w h (yes d) = ok.bounded w (omega arith)
made_bounded b ok w h (no d) =
    let n : b.made ≤ w = lt_of_not-le' b.made w d in
    omega (arith, ap length (ok.none w n))

pub makes_log : (b : EventLog) → LogInOrder b → b.made < length b.budgets → LogInOrder (with_newcomer b)
makes_log b ok room = record {
  count = omega arith;
  none = λ w h. ok.none w (omega arith);
  bounded = λ w h. made_bounded b ok w (omega arith) (dec_le (suc w) b.made);
  hand = λ p e. fits_newcomer b p (ok.hand p e);
  away = ok.away;
  closed = λ k p e. fits_newcomer b p (ok.closed k p e);
}

-- no worker of the hand or of those taken in has a number that was not made
hand_unmade : (b : EventLog) → LogInOrder b → (h : Option Known) → b.hand ≡ h → is_in_hand b.made h ≡ false
hand_unmade b ok (Some p) e = unlike p.worker b.made (let m = (ok.hand p e).made in λ h. absurd (omega arith))
hand_unmade b ok None e = refl

closed_unmade : (b : EventLog) → (ps : List Known) → ((k : ℕ) (p : Known) → get_elem? ps k ≡ some p → Fits b p) → has_worker b.made ps ≡ false
closed_unmade b [] f = refl
closed_unmade b (p ∷ ps) f =
    let m = (f 0 p refl).made in
    rw (unlike p.worker b.made (λ h. absurd (omega arith))) (closed_unmade b ps (λ k q e. f (suc k) q e))

pub makes_new : (b : EventLog) (place : ℕ → ℕ) (n : ℕ) → LogInOrder b → PassInOrder (with_newcomer b) (moved place b.made n) n (newcomer b)
makes_new b place n ok = record {
  fits = record { made = omega arith; seen = (b.history, refl); own = ok.none b.made (omega arith); saw_own = refl; budget = omega arith };
  placed = moved_here place b.made n;
  away = hand_unmade b ok b.hand refl;
  open_yet = closed_unmade b b.closed ok.closed;
}

pub makes_old : (b : EventLog) (place : ℕ → ℕ) (n k : ℕ) (p : Known) → PassInOrder b place k p → PassInOrder (with_newcomer b) (moved place b.made n) k p
makes_old b place n k p ok =
    let m = ok.fits.made in
    record {
      fits = fits_newcomer b p ok.fits;
      placed = moved_else place b.made n p.worker (λ h. absurd (omega arith)) ∙ ok.placed;
      away = ok.away;
      open_yet = ok.open_yet;
    }

pub takes_log : (b : EventLog) (place : ℕ → ℕ) (k : ℕ) (p : Known) → LogInOrder b → PassInOrder b place k p → LogInOrder (with_hand b (Some p))
takes_log b place k p ok idle = record {
  count = ok.count;
  none = ok.none;
  bounded = ok.bounded;
  hand = λ q e. let same : p ≡ q = cc e in subst (Fits (with_hand b (Some p))) same (record { made = idle.fits.made; seen = idle.fits.seen; own = idle.fits.own; saw_own = idle.fits.saw_own; budget = idle.fits.budget });
  away = λ q e. let same : p ≡ q = cc e in subst (λ (r : Known). has_worker r.worker b.closed ≡ false) same idle.open_yet;
  closed = λ j q e. let f = ok.closed j q e in record { made = f.made; seen = f.seen; own = f.own; saw_own = f.saw_own; budget = f.budget };
}

pub takes_old : (b : EventLog) (place : ℕ → ℕ) (k j : ℕ) (p q : Known) → ¬ (j ≡ k) → PassInOrder b place k p → PassInOrder b place j q → PassInOrder (with_hand b (Some p)) place j q
takes_old b place k j p q apart ok idle = record {
  fits = record { made = idle.fits.made; seen = idle.fits.seen; own = idle.fits.own; saw_own = idle.fits.saw_own; budget = idle.fits.budget };
  placed = idle.placed;
  away = unlike p.worker q.worker (λ h. apart (sym idle.placed ∙ (ap place (sym h) ∙ ok.placed)));
  open_yet = idle.open_yet;
}

pub closes_log : (b : EventLog) (place : ℕ → ℕ) (k : ℕ) (p : Known) → LogInOrder b → b.hand ≡ None → PassInOrder b place k p → LogInOrder (with_closed b p)
closes_log b place k p ok nobody idle = record {
  count = ok.count;
  none = ok.none;
  bounded = ok.bounded;
  hand = λ q e. absurd (cc (e, nobody));
  away = λ q e. absurd (cc (e, nobody));
  closed = elim [
    | zero ↦ λ q e. let same : p ≡ q = some-injective p q e in subst (Fits (with_closed b p)) same (record { made = idle.fits.made; seen = idle.fits.seen; own = idle.fits.own; saw_own = idle.fits.saw_own; budget = idle.fits.budget })
    | suc j ↦ λ q e. let f = ok.closed j q e in record { made = f.made; seen = f.seen; own = f.own; saw_own = f.saw_own; budget = f.budget }
  ];
}

pub closes_old : (b : EventLog) (place : ℕ → ℕ) (k j : ℕ) (p q : Known) → ¬ (j ≡ k) → PassInOrder b place k p → PassInOrder b place j q → PassInOrder (with_closed b p) place j q
closes_old b place k j p q apart ok idle = record {
  fits = record { made = idle.fits.made; seen = idle.fits.seen; own = idle.fits.own; saw_own = idle.fits.saw_own; budget = idle.fits.budget };
  placed = idle.placed;
  away = idle.away;
  open_yet = rw (unlike p.worker q.worker (λ h. apart (sym idle.placed ∙ (ap place (sym h) ∙ ok.placed)))) idle.open_yet;
}

-- the worker in the hand makes its event
other_events : (w : ℕ) (es : List Event) (e : Event) → e.worker ≢ w → events_of w (es ++ e ∷ []) ≡ events_of w es
other_events w es e h = events_after w es e false (unlike e.worker w h)

gives_fits : (b : EventLog) (e : Event) (q : Known) → q.worker ≢ e.worker → Fits b q → Fits (with_event b e) q
gives_fits b e q apart f = record { made = f.made; seen = prefix_more q.seen b.history e f.seen; own = other_events q.worker b.history e (λ h. apart (sym h)) ∙ f.own; saw_own = f.saw_own; budget = f.budget }

gives_bounded : (b : EventLog) (e : Event) (p : Known) → LogInOrder b → b.hand ≡ Some p → e.worker ≡ p.worker → 0 < p.left
    → (w : ℕ) → w < b.made → (t : Bool) → (e.worker == w) ≡ t → length (events_of w (b.history ++ e ∷ [])) ≤ slice_index b.budgets w
gives_bounded b e p ok inhand same some_left w h false is = omega (arith, ap length (events_after w b.history e false is), ok.bounded w h)
gives_bounded b e p ok inhand same some_left w h true is =
    let f = ok.hand p inhand in
    let here : p.worker ≡ w = grind (arith, nat_tests) in
    let more = ap length (events_after w b.history e true is) in
    let own : length (events_of w b.history) ≡ length p.own = ap length (ap (λ v. events_of v b.history) (sym here) ∙ f.own) in
    let budget : length p.own + p.left ≡ slice_index b.budgets w = f.budget ∙ ap (λ v. slice_index b.budgets v) here in
    omega (arith, more, own, budget, length-append (events_of w b.history) (e ∷ []))

pub gives_log : (b : EventLog) (e : Event) (p : Known) → LogInOrder b → b.hand ≡ Some p → e.worker ≡ p.worker → 0 < p.left → LogInOrder (with_event b e)
gives_log b e p ok inhand same some_left =
    let m = (ok.hand p inhand).made in
    record {
      count = ok.count;
      none = λ w h. other_events w b.history e (λ g. absurd (omega arith)) ∙ ok.none w h;
      bounded = λ w h. gives_bounded b e p ok inhand same some_left w h (e.worker == w) refl;
      hand = λ q g. absurd (cc g);
      away = λ q g. absurd (cc g);
      closed = λ k q g. gives_fits b e q (λ h. not_among b.closed p.worker k q (ok.away p inhand) g (h ∙ same)) (ok.closed k q g);
    }

pub gives_old : (b : EventLog) (e : Event) (p q : Known) (place : ℕ → ℕ) (n k : ℕ) → b.hand ≡ Some p → e.worker ≡ p.worker → PassInOrder b place k q → PassInOrder (with_event b e) (moved place p.worker n) k q
gives_old b e p q place n k inhand same ok =
    let away : (p.worker == q.worker) ≡ false = subst (λ (h : Option Known). is_in_hand q.worker h ≡ false) inhand ok.away in
    let apart : q.worker ≢ p.worker = λ h. differs p.worker q.worker away (sym h) in
    record {
      fits = gives_fits b e q (λ h. apart (h ∙ same)) ok.fits;
      placed = moved_else place p.worker n q.worker apart ∙ ok.placed;
      away = refl;
      open_yet = ok.open_yet;
    }

pub gives_new : (b : EventLog) (e : Event) (p : Known) (place : ℕ → ℕ) (n : ℕ) → LogInOrder b → b.hand ≡ Some p → e.worker ≡ p.worker → 0 < p.left → PassInOrder (with_event b e) (moved place p.worker n) n (known_after b e)
gives_new b e p place n ok inhand same some_left =
    let h : in_hand b.hand ≡ p = ap in_hand inhand in
    let f = ok.hand p inhand in
    let new : Known = record { worker = p.worker; left = p.left - 1; seen = b.history ++ e ∷ []; own = p.own ++ e ∷ [] } in
    let is : new ≡ known_after b e = ap (λ (q : Known). let r : Known = record { worker = q.worker; left = q.left - 1; seen = b.history ++ e ∷ []; own = q.own ++ e ∷ [] } in r) (sym h) in
    subst (PassInOrder (with_event b e) (moved place p.worker n) n) is (record {
      fits = record {
        made = f.made;
        seen = prefix_self (b.history ++ e ∷ []);
        own = events_after p.worker b.history e true (alike e.worker p.worker same) ∙ ap (λ l. l ++ e ∷ []) f.own;
        saw_own = events_after p.worker b.history e true (alike e.worker p.worker same) ∙ ap (λ l. l ++ e ∷ []) f.own;
        budget = omega (arith, length-append p.own (e ∷ []), f.budget);
      };
      placed = moved_here place p.worker n;
      away = refl;
      open_yet = ok.away p inhand;
    })

-- the pass goes back as it was
back_fits : (b : EventLog) (q : Known) → Fits b q → Fits (with_hand b None) q
back_fits b q f = record { made = f.made; seen = f.seen; own = f.own; saw_own = f.saw_own; budget = f.budget }

pub back_log : (b : EventLog) → LogInOrder b → LogInOrder (with_hand b None)
back_log b ok = record {
  count = ok.count;
  none = ok.none;
  bounded = ok.bounded;
  hand = λ q g. absurd (cc g);
  away = λ q g. absurd (cc g);
  closed = λ k q g. back_fits b q (ok.closed k q g);
}

pub back_old : (b : EventLog) (p q : Known) (place : ℕ → ℕ) (n k : ℕ) → b.hand ≡ Some p → PassInOrder b place k q → PassInOrder (with_hand b None) (moved place p.worker n) k q
back_old b p q place n k inhand ok =
    let away : (p.worker == q.worker) ≡ false = subst (λ (h : Option Known). is_in_hand q.worker h ≡ false) inhand ok.away in
    record {
      fits = back_fits b q ok.fits;
      placed = moved_else place p.worker n q.worker (λ h. differs p.worker q.worker away (sym h)) ∙ ok.placed;
      away = refl;
      open_yet = ok.open_yet;
    }

pub back_new : (b : EventLog) (p : Known) (place : ℕ → ℕ) (n : ℕ) → LogInOrder b → b.hand ≡ Some p → PassInOrder (with_hand b None) (moved place p.worker n) n (in_hand b.hand)
back_new b p place n ok inhand =
    subst (PassInOrder (with_hand b None) (moved place p.worker n) n) (sym (ap in_hand inhand)) (record {
      fits = back_fits b p (ok.hand p inhand);
      placed = moved_here place p.worker n;
      away = refl;
      open_yet = ok.away p inhand;
    })

abbrev pub total : List Event → ℕ → ℕ
total h zero = 0
total h (suc n) = total h n + length (events_of n h)

sum-snoc : (xs : List ℕ) (x : ℕ) → sum (xs ++ x ∷ []) ≡ sum xs + x
sum-snoc xs x = let e = sum_by-append (λ (y : ℕ). y) xs (x ∷ []) in omega (arith, e)

sum-split : (xs ys : List ℕ) → sum xs ≤ sum (xs ++ ys)
sum-split xs ys = let e = sum_by-append (λ (y : ℕ). y) xs ys in omega (arith, e)

total_nil : (n : ℕ) → total [] n ≡ 0
total_nil zero = refl
total_nil (suc n) = let e = total_nil n in omega (arith, e)

total_above : (e : Event) (es : List Event) (n : ℕ) → n ≤ e.worker → total (e ∷ es) n ≡ total es n
total_above e es zero h = refl
total_above e es (suc n) h =
    let no : (e.worker == n) ≡ false = grind (arith, nat_tests) in
    let ih = total_above e es n (omega arith) in
    rw no (ap (λ k. k + length (events_of n es)) ih)

total_more : (e : Event) (es : List Event) (n : ℕ) → e.worker < n → total (e ∷ es) n ≡ suc (total es n)
total_more e es zero h = absurd (omega arith)
total_more e es (suc n) h = go (total_more e es n) (e.worker == n) refl
  where
    go : (e.worker < n → total (e ∷ es) n ≡ suc (total es n)) → (b : Bool) → (e.worker == n) ≡ b → total (e ∷ es) (suc n) ≡ suc (total es (suc n))
    go ih true is =
        let here : e.worker ≡ n = grind (arith, nat_tests) in
        let t = total_above e es n (omega arith) in
        rw is (omega (arith, t))
    go ih false is =
        let apart : e.worker ≢ n = grind (arith, nat_tests) in
        let t = ih (omega arith) in
        rw is (omega (arith, t))

length_total : (h : List Event) (n : ℕ) → ((w : ℕ) → n ≤ w → events_of w h ≡ []) → length h ≤ total h n
length_total [] n nix = omega arith
length_total (e ∷ es) n nix =
    let there : e.worker < n = below (dec_le n e.worker) in
    let more = total_more e es n there in
    let ih = length_total es n rest in
    omega (arith, more, ih)
  where
    below : Dec (n ≤ e.worker) → e.worker < n
    below (yes d) =
        let same : (e.worker == e.worker) ≡ true = grind (arith, nat_tests) in
        let empty : cond (e.worker == e.worker) (e ∷ events_of e.worker es) (events_of e.worker es) ≡ [] = nix e.worker d in
        absurd (cc (rw same at empty))
    below (no d) = grind arith

    rest : (w : ℕ) → n ≤ w → events_of w es ≡ []
    rest w h =
        let there : e.worker < n = below (dec_le n e.worker) in
        let other : (e.worker == w) ≡ false = grind (arith, nat_tests) in
        let empty : cond (e.worker == w) (e ∷ events_of w es) (events_of w es) ≡ [] = nix w h in
        rw other at empty

total_le : (h : List Event) (bs : List ℕ) (n : ℕ) → n ≤ length bs → ((w : ℕ) → w < n → length (events_of w h) ≤ slice_index bs w) → total h n ≤ sum (take n bs)
total_le h bs zero le each = omega arith
total_le h bs (suc n) le each =
    let ih = total_le h bs n (omega arith) (λ w lt. each w (omega arith)) in
    let one = each n (omega arith) in
    let t : sum (take (suc n) bs) ≡ sum (take n bs) + slice_index bs n = ap sum (take-suc bs n 0 (omega arith)) ∙ sum-snoc (take n bs) (slice_index bs n) in
    omega (arith, ih, one, t)

total_less : (h : List Event) (bs : List ℕ) (n v left : ℕ) → n ≤ length bs → v < n → ((w : ℕ) → w < n → length (events_of w h) ≤ slice_index bs w) → length (events_of v h) + left ≤ slice_index bs v
    → total h n + left ≤ sum (take n bs)
total_less h bs zero v left le lt each here = absurd (omega arith)
total_less h bs (suc n) v left le lt each here = go (λ l. total_less h bs n v left (omega arith) l (λ w k. each w (omega arith)) here) (v == n) refl
  where
    t : sum (take (suc n) bs) ≡ sum (take n bs) + slice_index bs n
    t = ap sum (take-suc bs n 0 (omega arith)) ∙ sum-snoc (take n bs) (slice_index bs n)

    go : (v < n → total h n + left ≤ sum (take n bs)) → (b : Bool) → (v == n) ≡ b → total h (suc n) + left ≤ sum (take (suc n) bs)
    go ih' true is =
        let same : v ≡ n = grind (arith, nat_tests) in
        let here' : length (events_of n h) + left ≤ slice_index bs n = subst (λ k. length (events_of k h) + left ≤ slice_index bs k) same here in
        let ih = total_le h bs n (omega arith) (λ w l. each w (omega arith)) in
        omega (arith, ih, here', t)
    go ih' false is =
        let apart : v ≢ n = grind (arith, nat_tests) in
        let ih = ih' (omega arith) in
        let one = each n (omega arith) in
        omega (arith, ih, one, t)

-- the history and what the worker in the hand has left are no more than all budgets
pub room_left : (b : EventLog) (p : Known) → LogInOrder b → b.hand ≡ Some p → length b.history + p.left ≤ sum b.budgets
room_left b p ok inhand =
    let f = ok.hand p inhand in
    let own : length (events_of p.worker b.history) ≡ length p.own = ap length f.own in
    let a = length_total b.history b.made ok.none in
    let t = total_less b.history b.budgets b.made p.worker p.left ok.count f.made ok.bounded (omega (arith, own, f.budget)) in
    let s : sum (take b.made b.budgets) ≤ sum b.budgets = subst (λ l. sum (take b.made b.budgets) ≤ sum l) (take-append-drop b.made b.budgets) (sum-split (take b.made b.budgets) (drop b.made b.budgets)) in
    omega (arith, a, t, s)

-- the pass goes back, and has seen all
pub seen_new : (b : EventLog) (p : Known) (place : ℕ → ℕ) (n : ℕ) → LogInOrder b → b.hand ≡ Some p → PassInOrder (with_hand b None) (moved place p.worker n) n (seen_all b)
seen_new b p place n ok inhand =
    let f = ok.hand p inhand in
    let q : Known = record { worker = p.worker; left = p.left; seen = b.history; own = p.own } in
    let is : q ≡ seen_all b = ap (λ (x : Known). let r : Known = record { worker = x.worker; left = x.left; seen = b.history; own = x.own } in r) (sym (ap in_hand inhand)) in
    subst (PassInOrder (with_hand b None) (moved place p.worker n) n) is (record {
      fits = record { made = f.made; seen = prefix_self b.history; own = f.own; saw_own = f.own; budget = f.budget };
      placed = moved_here place p.worker n;
      away = refl;
      open_yet = ok.away p inhand;
    })
