-- All workers have ended: their history is a play.
use Rattle.std.proofs.Common.{◌≡◌, ℕ, zero, suc, ◌+◌, ◌<◌, ◌≤◌, inl, inr, true, false, List, [], ◌∷◌, ◌++◌, length, map, slice_get, Some, refl, sym, ap, ap₂, ◌∙◌, subst, arith, length-append}
use Rattle.std.specs.Prelude.{◌==◌, Result, Ok, Option, None, IfSome}
use Rattle.std.proofs.lemmas.Option.{slice_get_within}
use Rattle.std.proofs.lemmas.List.{length-map, nil_from_length}
use Rattle.std.proofs.lemmas.Bool.{or_left, or_right, or_cases, eqb-true, eq-eqb, false≢true, cases_Bool}
use mathlib.Core.List.{IsPrefix}
use Rattle.atomic_table.specs.Seated.{TableId}
use Rattle.seg_words.specs.declared.vec_words.VecWords.{VecWords}
use Rattle.cache_core.specs.declared.cache.Core.{Core}
use Rattle.apcu_model.specs.declared.conf.Clock.{Clock}
use Rattle.apcu_model.specs.declared.conf.Conf.{Conf}
use Rattle.apcu_model.specs.declared.request.Event.{Event}
use Rattle.apcu_model.specs.declared.request.Reply.{Reply}
use Rattle.apcu_model.specs.History.{start_of, all_legal, marks_of}
use Rattle.pin_table.specs.Values.{PassView}
use Rattle.pin_table.specs.Events.{events_of}
use Rattle.pin_table.specs.Lists.{AllOf, known_list}
use Rattle.pin_table.specs.Views.{has_worker}
use Rattle.script_read.specs.declared.script.Step.{Step}
use Rattle.script_read.specs.Budgets.{events_in, budgets_of}
use Rattle.script_read.specs.Clock.{timed, all_timed}
use Rattle.script_read.specs.Play.{played, IsCompletePlay}
use Rattle.reply_text.specs.Lines.{script_lines, texts_of}
use Rattle.play_laws.specs.Own.{own_replies, wish_in, HasPlayed}
use Rattle.play_laws.specs.Parts.{events-append}
use Rattle.play_laws.specs.Whole.{IsPlayedOut, replies_from, play_of}
use Rattle.shared_cache.specs.declared.locked_cache.Closed.{Closed}
use Rattle.shared_cache.specs.ClosedCaches.{IsClosed, IsClosedWhole}
use Rattle.worker_play.specs.declared.script.PlayFault.{PlayFault}
use Rattle.crew_play.specs.declared.play.Left.{Left}
use Rattle.crew_play.specs.Crew.{AllEnd}
use Rattle.crew_play.specs.PlayedScripts.{IsPlayed, IsLeftByPlay}
use Rattle.crew_play.proofs.Crews.{get-map}

-- what stands at a place of a list
pub get_some : {A : Type 0} (xs : List A) (k : ℕ) → k < length xs → (x : A) × (slice_get xs k ≡ Some x)
get_some [] k h = absurd (omega (arith, h))
get_some (x ∷ xs) zero h = (x, refl)
get_some (x ∷ xs) (suc k) h = get_some xs k (omega (arith, h))

-- ---- the workers that have ended

pub among_at : (bs : List PassView) (k w : ℕ) (b : PassView) → slice_get bs k ≡ Some b → b.known.worker ≡ w → has_worker w (known_list bs) ≡ true
among_at [] k w b h e = absurd (cc (h))
among_at (c ∷ bs) zero w b h e =
    let same : c ≡ b = cc (h) in
    or_left (c.known.worker == w) (has_worker w (known_list bs)) (eq-eqb c.known.worker w (ap (λ (x : PassView). x.known.worker) same ∙ e))
among_at (c ∷ bs) (suc k) w b h e = or_right (c.known.worker == w) (has_worker w (known_list bs)) (among_at bs k w b h e)

pub among_there : (bs : List PassView) (w : ℕ) → has_worker w (known_list bs) ≡ true → (k : ℕ) × (b : PassView) × (slice_get bs k ≡ Some b) × (b.known.worker ≡ w)
among_there [] w h = absurd (false≢true h)
among_there (c ∷ bs) w h = elim (or_cases (c.known.worker == w) (has_worker w (known_list bs)) h) [
  | inl e ↦ (0, c, refl, eqb-true c.known.worker w e)
  | inr r ↦ let s = among_there bs w r in (suc s.0, s.1, s.2, s.3)
]

-- each of the ended ones is the worker of its place
its_place : (t : TableId) (conf : Conf) (scripts : List (List Step)) (ended : List PassView) (texts : List (Result (List ℕ) PlayFault)) → AllEnd t conf scripts (length scripts) ended texts
    → (k : ℕ) (b : PassView) → slice_get ended k ≡ Some b → (b.table ≡ t) × (b.known.worker ≡ k) × (k < length scripts)
its_place t conf scripts ended texts all k b h =
    let few : k < length scripts = omega (arith, slice_get_within ended k b h, all.have_ended) in
    let s = get_some scripts k few in
    let x = get_some texts k (omega (arith, few, all.have_texts)) in
    let e = all.each k s.0 b x.0 s.1 h x.1 in
    (e.ended.table, e.ended.worker, few)

pub all_of : (t : TableId) (conf : Conf) (scripts : List (List Step)) (ended : List PassView) (texts : List (Result (List ℕ) PlayFault)) → AllEnd t conf scripts (length scripts) ended texts → AllOf t ended
all_of t conf scripts ended texts all k b h = (its_place t conf scripts ended texts all k b h).0

pub every : (t : TableId) (conf : Conf) (scripts : List (List Step)) (ended : List PassView) (texts : List (Result (List ℕ) PlayFault)) → AllEnd t conf scripts (length scripts) ended texts
    → (w : ℕ) → w < length scripts → has_worker w (known_list ended) ≡ true
every t conf scripts ended texts all w few =
    let b = get_some ended w (omega (arith, few, all.have_ended)) in
    among_at ended w w b.0 b.1 (its_place t conf scripts ended texts all w b.0 b.1).1

pub none_else : (t : TableId) (conf : Conf) (scripts : List (List Step)) (ended : List PassView) (texts : List (Result (List ℕ) PlayFault)) → AllEnd t conf scripts (length scripts) ended texts
    → (w : ℕ) → length scripts ≤ w → has_worker w (known_list ended) ≡ false
none_else t conf scripts ended texts all w past = elim (cases_Bool (has_worker w (known_list ended))) [
  | inl h ↦
      let s = among_there ended w h in
      let p = its_place t conf scripts ended texts all s.0 s.1 s.2 in
      absurd (omega (arith, past, p.2, p.1, s.3))
  | inr h ↦ h
]

-- ---- a clock changes no number of them

pub all_seen : (t : TableId) (conf : Conf) (clock : Clock) (scripts : List (List Step)) (ended : List PassView) (texts : List (Result (List ℕ) PlayFault)) → AllEnd t conf (all_timed clock scripts) (length scripts) ended texts
    → AllEnd t conf (all_timed clock scripts) (length (all_timed clock scripts)) ended texts
all_seen t conf clock scripts ended texts all = subst (λ n. AllEnd t conf (all_timed clock scripts) n ended texts) (sym (length-map scripts (timed clock))) all

pub budgets_for_each : (slots : ℕ) (clock : Clock) (scripts : List (List Step)) (budgets : List ℕ) → budgets ≡ budgets_of slots scripts → length budgets ≡ length (all_timed clock scripts)
budgets_for_each slots clock scripts budgets are = ap length are ∙ (length-map scripts (λ (script : List Step). events_in slots script + 1) ∙ sym (length-map scripts (timed clock)))

-- ---- what each was answered

-- events of others change nothing of a worker's replies
pub record OthersLaw : Type 0 where
  pub others : (conf : Conf) (w : ℕ) (history between : List Event) → events_of w between ≡ []
      → own_replies conf w (history ++ between) ≡ own_replies conf w history

-- once a worker has seen all its own events, it has had all its replies
pub replies_whole : OthersLaw → (conf : Conf) (w : ℕ) (seen history own : List Event) → IsPrefix seen history → events_of w seen ≡ own → events_of w history ≡ own
    → own_replies conf w seen ≡ own_replies conf w history
replies_whole law conf w seen history own prefix mine all =
    let rest = prefix.0 in
    let parts : events_of w history ≡ events_of w seen ++ events_of w rest = ap (events_of w) (sym prefix.1) ∙ events-append w seen rest in
    let none : events_of w rest ≡ [] =
    nil_from_length (events_of w rest) (omega (arith, ap length parts, length-append (events_of w seen) (events_of w rest), ap length mine, ap length all)) in
    sym (law.others conf w seen rest none) ∙ ap (own_replies conf w) prefix.1

-- the lines of each worker, from the worker w on
texts_match : (conf : Conf) (w : ℕ) (scripts : List (List Step)) (texts : List (List ℕ)) (history : List Event) → length texts ≡ length scripts
    → ((k : ℕ) (script : List Step) (text : List ℕ) → slice_get scripts k ≡ Some script → slice_get texts k ≡ Some text → text ≡ script_lines conf script (own_replies conf (w + k) history))
    → texts ≡ texts_of conf scripts (replies_from conf w scripts history)
texts_match conf w [] [] history same each = refl
texts_match conf w [] (x ∷ xs) history same each = absurd (omega (arith, same))
texts_match conf w (s ∷ ss) [] history same each = absurd (omega (arith, same))
texts_match conf w (s ∷ ss) (x ∷ xs) history same each =
    let here : w + 0 ≡ w = omega arith in
    let first : x ≡ script_lines conf s (own_replies conf w history) = each 0 s x refl refl ∙ ap (λ v. script_lines conf s (own_replies conf v history)) here in
    let rest = texts_match conf (w + 1) ss xs history (omega (arith, same))
    (λ k script text hs ht.
    let next : w + suc k ≡ (w + 1) + k = omega arith in
    each (suc k) script text hs ht ∙ ap (λ v. script_lines conf script (own_replies conf v history)) next) in
    ap₂ (λ (a : List ℕ) (b : List (List ℕ)). a ∷ b) first rest

-- ---- the whole

-- a worker that ended after all of its script
record IsOut (conf : Conf) (script : List Step) (w : ℕ) (history : List Event) (text : List ℕ) : Type 0 where
  played : HasPlayed conf script (map wish_in (events_of w history)) (own_replies conf w history)
  lines : text ≡ script_lines conf script (own_replies conf w history)

out : OthersLaw → (t : TableId) (conf : Conf) (workers : ℕ) (scripts : List (List Step)) (ended : List PassView) (texts : List (List ℕ)) (closed : Closed) → AllEnd t conf scripts (length scripts) ended (map Ok texts) → (c : IsClosed conf workers ended closed)
    → (k : ℕ) (script : List Step) (text : List ℕ) → slice_get scripts k ≡ Some script → slice_get texts k ≡ Some text → IsOut conf script k c.history text
out law t conf workers scripts ended texts closed all c k script text hs ht =
    let b = get_some ended k (omega (arith, slice_get_within scripts k script hs, all.have_ended)) in
    let e = all.each k script b.0 (Ok text) hs b.1 (get-map Ok texts k text ht) in
    let whole : events_of k c.history ≡ b.0.known.own = ap (λ v. events_of v c.history) (sym e.ended.worker) ∙ c.own k b.0 b.1 in
    let had : own_replies conf b.0.known.worker b.0.known.seen ≡ own_replies conf k c.history =
    replies_whole law conf b.0.known.worker b.0.known.seen c.history b.0.known.own (c.seen k b.0 b.1) e.ended.all_own (c.own k b.0 b.1) ∙ ap (λ v. own_replies conf v c.history) e.ended.worker in
    record {
      played = subst (λ (rs : List Reply). HasPlayed conf script (map wish_in (events_of k c.history)) rs) had
          (subst (λ (own : List Event). HasPlayed conf script (map wish_in own) (own_replies conf b.0.known.worker b.0.known.seen)) (sym whole) e.plays.played);
      lines = e.plays.is ∙ ap (script_lines conf script) had;
    }

pub record PlayLaws : Type 0 where
  pub play : (conf : Conf) (scripts : List (List Step)) (history : List Event) → IsPlayedOut conf scripts history
      → played conf scripts (marks_of history) ≡ Some (play_of conf scripts history)
  pub complete : (conf : Conf) (scripts : List (List Step)) (history : List Event) → IsPlayedOut conf scripts history
      → IsCompletePlay conf scripts (marks_of history)

pub is_played : OthersLaw → PlayLaws → (t : TableId) (conf : Conf) (workers : ℕ) (scripts : List (List Step)) (ended : List PassView) (texts : List (List ℕ)) (closed : Closed) → workers ≡ length scripts
    → AllEnd t conf scripts (length scripts) ended (map Ok texts) → IsClosed conf workers ended closed → IsPlayed conf scripts closed.journal.marks texts closed.counts
is_played law laws t conf workers scripts ended texts closed count all c =
    let o = out law t conf workers scripts ended texts closed all c in
    let has : length texts ≡ length scripts = sym (length-map texts Ok) ∙ all.have_texts in
    let whole : IsPlayedOut conf scripts c.history = record {
      legal = subst (λ n. all_legal n (start_of conf) c.history ≡ true) count c.legal;
      asked = λ w script hs.
          let x = get_some texts w (omega (arith, slice_get_within scripts w script hs, has)) in
          (o w script x.0 hs x.1).played;
      others = λ w past. c.others w (none_else t conf scripts ended (map Ok texts) all w past);
    } in
    record {
      play = play_of conf scripts c.history;
      plays = ap (played conf scripts) c.journal ∙ laws.play conf scripts c.history whole;
      complete = subst (IsCompletePlay conf scripts) (sym c.journal) (laws.complete conf scripts c.history whole);
      texts_are = texts_match conf 0 scripts texts c.history has
          (λ k script text hs ht.
          let here : k ≡ 0 + k = omega arith in
          (o k script text hs ht).lines ∙ ap (λ v. script_lines conf script (own_replies conf v c.history)) here);
      counts_are = c.counts;
    }

-- and the cache that is left is the one after that play
pub is_left : OthersLaw → PlayLaws → (t : TableId) (conf : Conf) (workers : ℕ) (scripts : List (List Step)) (ended : List PassView) (texts : List (List ℕ)) (closed : Closed) (core : Core) (words : VecWords) → workers ≡ length scripts
    → AllEnd t conf scripts (length scripts) ended (map Ok texts) → IsClosedWhole conf workers ended closed core words → IsLeftByPlay conf scripts closed.journal.marks texts closed.counts core words
unfolding is_played
is_left law laws t conf workers scripts ended texts closed core words count all c = record {
  is_played = is_played law laws t conf workers scripts ended texts closed count all c.is_closed;
  cache = c.cache;
  stand = c.stand;
}

-- if one is left
pub any_left : OthersLaw → PlayLaws → (t : TableId) (conf : Conf) (workers : ℕ) (scripts : List (List Step)) (ended : List PassView) (texts : List (List ℕ)) (closed : Closed) (left : Option Left) → workers ≡ length scripts
    → AllEnd t conf scripts (length scripts) ended (map Ok texts) → IfSome left (λ l. IsClosedWhole conf workers ended closed l.core l.words)
    → IfSome left (λ l. IsLeftByPlay conf scripts closed.journal.marks texts closed.counts l.core l.words)
any_left law laws t conf workers scripts ended texts closed None count all whole = whole
any_left law laws t conf workers scripts ended texts closed (Some left) count all whole =
    is_left law laws t conf workers scripts ended texts closed left.core left.words count all whole
