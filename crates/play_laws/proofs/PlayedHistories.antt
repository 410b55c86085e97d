-- A history in which workers play their scripts is the play that it tells.
use Rattle.std.proofs.Common.{◌≡◌, ◌≢◌, ℕ, zero, suc, ◌+◌, ◌<◌, ◌≤◌, Bool, true, false, cond, List, [], ◌∷◌, ◌++◌, length, map, take, Option, Some, None, inl, inr, refl, sym, ap, subst, ◌∙◌, append_assoc, arith}
use Rattle.std.specs.Prelude.{◌==◌, ◌&&◌, if◌then◌else◌, slice_get, slice_set, unwrap_or, is_none, IsTrue, IsSome}
use Rattle.std.specs.Option.{option_and_then}
use Rattle.std.proofs.lemmas.Bool.Decides.{eqb_tells}
use Rattle.std.proofs.lemmas.List.{append-nil, map-append, length-append, length-map, take_at}
use Rattle.std.proofs.lemmas.Option.{slice_get_cases}
use Rattle.apcu_model.specs.declared.conf.Conf.{Conf}
use Rattle.apcu_model.specs.declared.request.Event.{Event}
use Rattle.apcu_model.specs.declared.request.Reply.{Reply}
use Rattle.apcu_model.specs.History.{Stage, start_of, stage_of, reply_in, after_event, after_events, all_legal, is_legal_mask, mark_of, marks_of}
use Rattle.pin_table.specs.Events.{events_of}
use Rattle.script_read.specs.declared.script.Step.{Step}
use Rattle.script_read.specs.Play.{Wish, Play, wanted, replies_of, wish_of, after_wish, marked, played_from, played, IsLegal, IsCompletePlay, are_done, is_complete_play}
use Rattle.play_laws.specs.Own.{own_replies, own_replies_from, wish_in, HasPlayed}
use Rattle.play_laws.specs.Parts.{events-append, get_behind}
use Rattle.play_laws.specs.Whole.{IsPlayedOut, replies_from, play_of}
use Rattle.play_laws.proofs.OwnReplies.{replies-joined, one-more, length-own_replies}

-- ---- numbers, tests and lists

same_true : (a b : ℕ) → a ≡ b → (a == b) ≡ true
same_true a b e = elim (eqb_tells a b) [
  | inl t ↦ t.0
  | inr t ↦ absurd (t.1 e)
]

other_false : (a b : ℕ) → a ≢ b → (a == b) ≡ false
other_false a b d = elim (eqb_tells a b) [
  | inl t ↦ absurd (d t.1)
  | inr t ↦ t.0
]

both_true : (a b : Bool) → (a && b) ≡ true → (a ≡ true) × (b ≡ true)
both_true true b e = (refl, e)
both_true false b e = absurd cc

true_both : (a b : Bool) → a ≡ true → b ≡ true → (a && b) ≡ true
true_both a b p q = rw p q

-- ---- one worker's events and replies

after-joined : (m : Stage) (es more : List Event) → after_events m (es ++ more) ≡ after_events (after_events m es) more
after-joined m [] more = refl
after-joined m (e ∷ es) more = after-joined (after_event m e) es more

-- those of the event's own worker
own_events : (w : ℕ) (done : List Event) (e : Event) (rest : List Event) → e.worker ≡ w → events_of w (done ++ e ∷ rest) ≡ events_of w done ++ e ∷ events_of w rest
own_events w done e rest own =
    events-append w done (e ∷ rest) ∙ ap (λ (b : Bool). events_of w done ++ cond b (e ∷ events_of w rest) (events_of w rest)) (same_true e.worker w own)

-- the event of a worker is answered among its own replies
own_grows : (conf : Conf) (w : ℕ) (done : List Event) (e : Event) → e.worker ≡ w → own_replies conf w (done ++ e ∷ []) ≡ own_replies conf w done ++ reply_in (stage_of conf done) e ∷ []
own_grows conf w done e own =
    one-more conf w done e ∙ ap (λ (b : Bool). own_replies conf w done ++ cond b (reply_in (stage_of conf done) e ∷ []) []) (same_true e.worker w own)

-- and among no others
own_stays : (conf : Conf) (w : ℕ) (done : List Event) (e : Event) → e.worker ≢ w → own_replies conf w (done ++ e ∷ []) ≡ own_replies conf w done
own_stays conf w done e other =
    one-more conf w done e
    ∙ (ap (λ (b : Bool). own_replies conf w done ++ cond b (reply_in (stage_of conf done) e ∷ []) []) (other_false e.worker w other)
    ∙ append-nil (own_replies conf w done))

-- ---- the replies of all workers

pub replies_at : (conf : Conf) (w : ℕ) (scripts : List (List Step)) (history : List Event) (k v : ℕ) (script : List Step) → slice_get scripts k ≡ Some script → v ≡ w + k
    → slice_get (replies_from conf w scripts history) k ≡ Some (own_replies conf v history)
replies_at conf w [] history k v script at is = absurd cc
replies_at conf w (s ∷ scripts) history zero v script at is =
    ap (λ (n : ℕ). Some (own_replies conf n history)) (omega arith)
replies_at conf w (s ∷ scripts) history (suc k) v script at is = replies_at conf (w + 1) scripts history k v script at (omega arith)

-- an event of a worker before these leaves their replies
replies_stay : (conf : Conf) (w : ℕ) (scripts : List (List Step)) (done : List Event) (e : Event) → e.worker < w → replies_from conf w scripts (done ++ e ∷ []) ≡ replies_from conf w scripts done
replies_stay conf w [] done e before = refl
replies_stay conf w (s ∷ scripts) done e before =
    let first = own_stays conf w done e (λ same. absurd (omega (arith, same))) in
    let later = replies_stay conf (w + 1) scripts done e (omega arith) in
    ap (λ (r : List Reply). r ∷ replies_from conf (w + 1) scripts (done ++ e ∷ [])) first ∙ ap (λ (r : List (List Reply)). own_replies conf w done ∷ r) later

-- an event of one of these workers adds its reply
replies_grow : (conf : Conf) (w : ℕ) (scripts : List (List Step)) (done : List Event) (e : Event) (k : ℕ) (script : List Step) → slice_get scripts k ≡ Some script → e.worker ≡ w + k
    → slice_set (replies_from conf w scripts done) k (own_replies conf e.worker done ++ reply_in (stage_of conf done) e ∷ []) ≡ replies_from conf w scripts (done ++ e ∷ [])
replies_grow conf w [] done e k script at is = absurd cc
replies_grow conf w (s ∷ scripts) done e zero script at is =
    let same : e.worker ≡ w = omega arith in
    let first : own_replies conf e.worker done ++ reply_in (stage_of conf done) e ∷ [] ≡ own_replies conf w (done ++ e ∷ []) =
    ap (λ (n : ℕ). own_replies conf n done ++ reply_in (stage_of conf done) e ∷ []) same ∙ sym (own_grows conf w done e same) in
    let later = replies_stay conf (w + 1) scripts done e (omega arith) in
    ap (λ (r : List Reply). r ∷ replies_from conf (w + 1) scripts done) first ∙ ap (λ (r : List (List Reply)). own_replies conf w (done ++ e ∷ []) ∷ r) (sym later)
replies_grow conf w (s ∷ scripts) done e (suc k) script at is =
    let first = own_stays conf w done e (λ same. absurd (omega (arith, same))) in
    let later = replies_grow conf (w + 1) scripts done e k script at (omega arith) in
    ap (λ (r : List (List Reply)). own_replies conf w done ∷ r) later ∙ ap (λ (r : List Reply). r ∷ replies_from conf (w + 1) scripts (done ++ e ∷ [])) (sym first)

-- ---- one event is one mark

abbrev play : Stage → List (List Reply) → Play
play m r = record { stage = m; replies = r }

-- the worker has asked in this history what its script wants, to the end
abbrev HasPlayedIn : Conf → List Step → ℕ → List Event → Type 0
HasPlayedIn conf script w history = HasPlayed conf script (map wish_in (events_of w history)) (own_replies conf w history)

-- what the event asks is what its worker wants
wants_it : (conf : Conf) (scripts : List (List Step)) (done : List Event) (e : Event) (rest : List Event) (script : List Step) → slice_get scripts e.worker ≡ Some script
    → HasPlayedIn conf script e.worker (done ++ e ∷ rest) → wish_of conf scripts (play_of conf scripts done) e.worker ≡ Some (wish_in e)
wants_it conf scripts done e rest script at asked =
    let w = e.worker in
    let own = own_replies conf w done in
    let before = map wish_in (events_of w done) in
    let found : replies_of (play_of conf scripts done) w ≡ own =
    ap (λ (o : Option (List Reply)). unwrap_or o []) (replies_at conf 0 scripts done w w script at (omega arith)) in
    let split : map wish_in (events_of w (done ++ e ∷ rest)) ≡ before ++ wish_in e ∷ map wish_in (events_of w rest) =
    ap (map wish_in) (own_events w done e rest refl) ∙ map-append wish_in (events_of w done) (e ∷ events_of w rest) in
    let many : length own ≡ length before = length-own_replies conf w done ∙ sym (length-map (events_of w done) wish_in) in
    let here : slice_get (map wish_in (events_of w (done ++ e ∷ rest))) (length own) ≡ Some (wish_in e) =
    ap (λ (l : List Wish). slice_get l (length own)) split
    ∙ (ap (slice_get (before ++ wish_in e ∷ map wish_in (events_of w rest))) many ∙ get_behind before (wish_in e) (map wish_in (events_of w rest))) in
    let first : take (length own) (own_replies conf w (done ++ e ∷ rest)) ≡ own =
    ap (take (length own)) (replies-joined w (start_of conf) done (e ∷ rest)) ∙ take_at own (own_replies_from w (stage_of conf done) (e ∷ rest)) (length own) refl in
    ap (option_and_then (λ (s : List Step). wanted conf s (replies_of (play_of conf scripts done) w))) at
    ∙ (ap (wanted conf script) (found ∙ sym first) ∙ asked.in_turn.each (length own) (wish_in e) here)

after_it : (conf : Conf) (scripts : List (List Step)) (done : List Event) (e : Event) (script : List Step) → slice_get scripts e.worker ≡ Some script
    → after_wish (play_of conf scripts done) (mark_of e) (wish_in e) ≡ play_of conf scripts (done ++ e ∷ [])
after_it conf scripts done e script at =
    let w = e.worker in
    let found : replies_of (play_of conf scripts done) w ≡ own_replies conf w done =
    ap (λ (o : Option (List Reply)). unwrap_or o []) (replies_at conf 0 scripts done w w script at (omega arith)) in
    let stage : after_event (stage_of conf done) e ≡ stage_of conf (done ++ e ∷ []) = sym (after-joined (start_of conf) done (e ∷ [])) in
    let replies : slice_set (replies_from conf 0 scripts done) w (replies_of (play_of conf scripts done) w ++ reply_in (stage_of conf done) e ∷ []) ≡ replies_from conf 0 scripts (done ++ e ∷ []) =
    ap (λ (r : List Reply). slice_set (replies_from conf 0 scripts done) w (r ++ reply_in (stage_of conf done) e ∷ [])) found
    ∙ replies_grow conf 0 scripts done e w script at (omega arith) in
    ap (λ (m : Stage). play m (slice_set (replies_from conf 0 scripts done) w (replies_of (play_of conf scripts done) w ++ reply_in (stage_of conf done) e ∷ []))) stage
    ∙ ap (λ (r : List (List Reply)). play (stage_of conf (done ++ e ∷ [])) r) replies

marked_by : (conf : Conf) (scripts : List (List Step)) (done : List Event) (e : Event) (rest : List Event) (script : List Step) → slice_get scripts e.worker ≡ Some script
    → HasPlayedIn conf script e.worker (done ++ e ∷ rest) → is_legal_mask (length scripts) e.worker (stage_of conf done) e.mask ≡ true
    → marked conf scripts (play_of conf scripts done) (mark_of e) ≡ Some (play_of conf scripts (done ++ e ∷ []))
marked_by conf scripts done e rest script at asked legal =
    let p = play_of conf scripts done in
    ap (λ (b : Bool). if b then option_and_then (λ (wish : Wish). Some (after_wish p (mark_of e) wish)) (wish_of conf scripts p e.worker) else None) legal
    ∙ (ap (option_and_then (λ (wish : Wish). Some (after_wish p (mark_of e) wish))) (wants_it conf scripts done e rest script at asked)
    ∙ ap Some (after_it conf scripts done e script at))

-- the script of an event's worker
record HasScript (scripts : List (List Step)) (w : ℕ) : Type 0 where
  pub script : List Step
  pub at : slice_get scripts w ≡ Some script

script_of_event : (scripts : List (List Step)) (done : List Event) (e : Event) (rest : List Event) → ((w : ℕ) → length scripts ≤ w → events_of w (done ++ e ∷ rest) ≡ []) → HasScript scripts e.worker
script_of_event scripts done e rest others = elim (slice_get_cases scripts e.worker).1 [
  | inl there ↦ record { script = there.0; at = there.2 }
  | inr past ↦
      let none = ap length (sym (own_events e.worker done e rest refl) ∙ others e.worker past.0) in
      absurd (omega (arith, none, length-append (events_of e.worker done) (e ∷ events_of e.worker rest)))
]

-- ---- all events

goes_on : (conf : Conf) (scripts : List (List Step)) (done rest : List Event) → all_legal (length scripts) (stage_of conf done) rest ≡ true
    → ((w : ℕ) (script : List Step) → slice_get scripts w ≡ Some script → HasPlayedIn conf script w (done ++ rest))
    → ((w : ℕ) → length scripts ≤ w → events_of w (done ++ rest) ≡ [])
    → played_from conf scripts (play_of conf scripts done) (marks_of rest) ≡ Some (play_of conf scripts (done ++ rest))
goes_on conf scripts done [] legal asked others = ap (λ (h : List Event). Some (play_of conf scripts h)) (sym (append-nil done))
goes_on conf scripts done (e ∷ rest) legal asked others =
    let parts = both_true (is_legal_mask (length scripts) e.worker (stage_of conf done) e.mask) (all_legal (length scripts) (after_event (stage_of conf done) e) rest) legal in
    let has = script_of_event scripts done e rest others in
    let one = marked_by conf scripts done e rest has.script has.at (asked e.worker has.script has.at) parts.0 in
    let joined : (done ++ e ∷ []) ++ rest ≡ done ++ e ∷ rest = append_assoc done (e ∷ []) rest in
    let legal_on : all_legal (length scripts) (stage_of conf (done ++ e ∷ [])) rest ≡ true =
    ap (λ (m : Stage). all_legal (length scripts) m rest) (after-joined (start_of conf) done (e ∷ [])) ∙ parts.1 in
    let later = goes_on conf scripts (done ++ e ∷ []) rest legal_on
    (λ w script at. subst (HasPlayedIn conf script w) (sym joined) (asked w script at))
    (λ w past. ap (events_of w) joined ∙ others w past) in
    ap (option_and_then (λ (q : Play). played_from conf scripts q (marks_of rest))) one ∙ (later ∙ ap (λ (h : List Event). Some (play_of conf scripts h)) joined)

nothing_told : (conf : Conf) (w : ℕ) (scripts : List (List Step)) → map (λ script. []) scripts ≡ replies_from conf w scripts []
nothing_told conf w [] = refl
nothing_told conf w (s ∷ scripts) = ap (λ (r : List (List Reply)). [] ∷ r) (nothing_told conf (w + 1) scripts)

pub played_is_told : (conf : Conf) (scripts : List (List Step)) (history : List Event) → IsPlayedOut conf scripts history → played conf scripts (marks_of history) ≡ Some (play_of conf scripts history)
played_is_told conf scripts history out =
    ap (λ (r : List (List Reply)). played_from conf scripts (play (start_of conf) r) (marks_of history)) (nothing_told conf 0 scripts)
    ∙ goes_on conf scripts [] history out.legal out.asked out.others

pub is_legal : (conf : Conf) (scripts : List (List Step)) (history : List Event) → IsPlayedOut conf scripts history → IsLegal conf scripts (marks_of history)
is_legal conf scripts history out = subst (λ (o : Option Play). IsSome o) (sym (played_is_told conf scripts history out)) refl

-- ---- nothing more is wanted

done_from : (conf : Conf) (w : ℕ) (scripts : List (List Step)) (history : List Event)
    → ((k v : ℕ) (script : List Step) → slice_get scripts k ≡ Some script → v ≡ w + k → wanted conf script (own_replies conf v history) ≡ None)
    → are_done conf scripts (replies_from conf w scripts history) ≡ true
done_from conf w [] history done = refl
done_from conf w (s ∷ scripts) history done =
    true_both (is_none (wanted conf s (own_replies conf w history))) (are_done conf scripts (replies_from conf (w + 1) scripts history)) (ap (λ (o : Option Wish). is_none o) (done 0 w s refl (omega arith)))
    (done_from conf (w + 1) scripts history (λ k v script at is. done (suc k) v script at (omega arith)))

pub is_complete : (conf : Conf) (scripts : List (List Step)) (history : List Event) → IsPlayedOut conf scripts history → IsCompletePlay conf scripts (marks_of history)
is_complete conf scripts history out =
    subst (λ (o : Option Play). IsTrue (is_complete_play conf scripts o)) (sym (played_is_told conf scripts history out))
    (done_from conf 0 scripts history (λ k v script at is. (out.asked v script (ap (slice_get scripts) (is ∙ omega arith) ∙ at)).done))

-- ---- a worker's replies in the play

pub replies_told : (conf : Conf) (scripts : List (List Step)) (history : List Event) (w : ℕ) → w < length scripts → replies_of (play_of conf scripts history) w ≡ own_replies conf w history
replies_told conf scripts history w inside = elim (slice_get_cases scripts w).1 [
  | inl there ↦ ap (λ (o : Option (List Reply)). unwrap_or o []) (replies_at conf 0 scripts history w w there.0 there.2 (omega arith))
  | inr past ↦ absurd (omega (arith, past.0))
]
