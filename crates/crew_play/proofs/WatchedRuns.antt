-- A generated run whose workers have all ended.
use Rattle.std.proofs.Common.{◌≡◌, ℕ, zero, suc, ◌+◌, ◌*◌, ◌<◌, ◌≤◌, ℤ, inl, inr, Bool, true, false, List, [], ◌∷◌, ◌++◌, length, map, slice_get, Some, refl, sym, ap, ap₂, ◌∙◌, subst, arith, length-append}
use Rattle.std.specs.List.{range_with_len}
use Rattle.std.proofs.lemmas.Bool.{cases_Bool}
use Rattle.std.proofs.lemmas.List.{length-map}
use Rattle.std.proofs.lemmas.Option.{slice_get_within}
use mathlib.Core.List.{IsPrefix}
use Rattle.atomic_table.specs.Seated.{TableId}
use Rattle.apcu_model.specs.declared.conf.Conf.{Conf}
use Rattle.apcu_model.specs.declared.row_info.Counts.{Counts}
use Rattle.apcu_model.specs.declared.request.Event.{Event}
use Rattle.apcu_model.specs.declared.journal.Mark.{Mark}
use Rattle.apcu_model.specs.declared.request.Reply.{Reply}
use Rattle.apcu_model.specs.declared.request.Reply.TheVariants.{Ended}
use Rattle.apcu_model.specs.History.{start_of, all_legal, marks_of}
use Rattle.pin_table.specs.Values.{PassView}
use Rattle.pin_table.specs.Events.{events_of}
use Rattle.pin_table.specs.Lists.{AllOf, known_list}
use Rattle.pin_table.specs.Views.{has_worker}
use Rattle.script_read.specs.declared.script.Step.{Step}
use Rattle.script_read.specs.Budgets.{most_events}
use Rattle.script_read.specs.GeneratedScripts.{Draw, draws_of, steps_of_draws, generated}
use Rattle.script_read.specs.Play.{Play, played, IsCompletePlay}
use Rattle.play_laws.specs.Own.{own_replies, wish_in, HasPlayed}
use Rattle.play_laws.specs.Parts.{events-append, get_behind}
use Rattle.play_laws.specs.Whole.{IsPlayedOut, play_of}
use Rattle.play_laws.specs.Observer.{IsObservedLast, counters_read, observed, wish_to_end, wishes_of_looks}
use Rattle.play_laws.specs.Summary.{IsLarge, number_found, summary_due, summary_of}
use Rattle.shared_cache.specs.declared.locked_cache.Closed.{Closed}
use Rattle.shared_cache.specs.ClosedCaches.{IsClosed}
use Rattle.worker_play.specs.Ends.{HasEnded, HasMade, PlaysAll}
use Rattle.worker_play.specs.Goes.{KnowsOwnEvents}
use Rattle.worker_play.specs.Looks.{Observes}
use Rattle.crew_play.specs.GeneratedRuns.{IsRun, IsWatched, HaveMade}
use Rattle.crew_play.proofs.Crews.{get_more}
use Rattle.crew_play.proofs.GeneratedScripts.{drawn_at, workers_counted}
use Rattle.crew_play.proofs.EndedCrews.{OthersLaw, PlayLaws, get_some, among_at, among_there, replies_whole}
use Rattle.crew_play.proofs.LearnedEnds.{prefixes, none_besides}
use Rattle.crew_play.proofs.WishCounts.{WishLaws, get_first, get_past, made_counted, observer_plays, plays_counted}

-- ---- the workers that have ended, worker 0 last

-- the last one ended as worker 0
first_ended : (t : TableId) (conf : Conf) (scripts : List (List Step)) (count workers : ℕ) (first end : PassView) (others : List PassView) (all : Bool) (numbers : List ℤ) → HaveMade t conf scripts count first others all → Observes conf workers first end numbers → HasEnded t 0 end
first_ended t conf scripts count workers first end others all numbers h o = record {
  table = o.goes.table ∙ h.table;
  worker = o.goes.worker ∙ h.worker;
  all_own = o.goes.all_own;
}

-- each of the list is one of the workers
pub one_of_them : (t : TableId) (conf : Conf) (scripts : List (List Step)) (count workers : ℕ) (first end : PassView) (others : List PassView) (all : Bool) (numbers : List ℤ) → HaveMade t conf scripts count first others all → Observes conf workers first end numbers
    → (k : ℕ) (b : PassView) → slice_get (others ++ end ∷ []) k ≡ Some b → (b.table ≡ t) × (b.known.worker < count)
one_of_them t conf scripts count workers first end others all numbers h o k b hb = elim (get_more others end k b hb) [
  | inl there ↦
      let e = h.each k b there in
      (e.table, omega (arith, e.worker, slice_get_within others k b there, h.have_ended))
  | inr (at, same) ↦
      let e = subst (λ v. HasEnded t 0 v) same (first_ended t conf scripts count workers first end others all numbers h o) in
      (e.table, omega (arith, e.worker, h.have_ended))
]

pub of_table : (t : TableId) (conf : Conf) (scripts : List (List Step)) (count workers : ℕ) (first end : PassView) (others : List PassView) (all : Bool) (numbers : List ℤ) → HaveMade t conf scripts count first others all → Observes conf workers first end numbers → AllOf t (others ++ end ∷ [])
of_table t conf scripts count workers first end others all numbers h o k b hb = (one_of_them t conf scripts count workers first end others all numbers h o k b hb).0

-- and each worker is in it
pub each_there : (t : TableId) (conf : Conf) (scripts : List (List Step)) (count workers : ℕ) (first end : PassView) (others : List PassView) (all : Bool) (numbers : List ℤ) → HaveMade t conf scripts count first others all → Observes conf workers first end numbers
    → (w : ℕ) → w < count → has_worker w (known_list (others ++ end ∷ [])) ≡ true
each_there t conf scripts count workers first end others all numbers h o zero few =
    among_at (others ++ end ∷ []) (length others) 0 end (get_behind others end []) (first_ended t conf scripts count workers first end others all numbers h o).worker
each_there t conf scripts count workers first end others all numbers h o (suc k) few =
    let within : k < length others = omega (arith, few, h.have_ended) in
    let b = get_some others k within in
    among_at (others ++ end ∷ []) k (suc k) b.0 (get_first others (end ∷ []) k within ∙ b.1) (h.each k b.0 b.1).worker

none_else : (count : ℕ) (bs : List PassView) → ((k : ℕ) (b : PassView) → slice_get bs k ≡ Some b → b.known.worker < count) → (w : ℕ) → count ≤ w → has_worker w (known_list bs) ≡ false
none_else count bs each w past = elim (cases_Bool (has_worker w (known_list bs))) [
  | inl h ↦
      let s = among_there bs w h in
      absurd (omega (arith, past, each s.0 s.1 s.2, s.3))
  | inr h ↦ h
]

-- ---- what each has played

some_same : {A : Type 0} (x y : A) → Some x ≡ Some y → x ≡ y
some_same x y e = cc (e)

-- what a worker knows at its end holds of the whole history
in_history : OthersLaw → (conf : Conf) (script : List Step) (w : ℕ) (b : PassView) (history : List Event) → PlaysAll conf script b → KnowsOwnEvents b → b.known.worker ≡ w → IsPrefix b.known.seen history → events_of b.known.worker history ≡ b.known.own
    → HasPlayed conf script (map wish_in (events_of w history)) (own_replies conf w history)
in_history law conf script w b history plays whole worker seen own =
    let all : events_of w history ≡ b.known.own = ap (λ v. events_of v history) (sym worker) ∙ own in
    let had : own_replies conf b.known.worker b.known.seen ≡ own_replies conf w history =
    replies_whole law conf b.known.worker b.known.seen history b.known.own seen whole own ∙ ap (λ v. own_replies conf v history) worker in
    subst (λ (rs : List Reply). HasPlayed conf script (map wish_in (events_of w history)) rs) had
    (subst (λ (l : List Event). HasPlayed conf script (map wish_in l) (own_replies conf b.known.worker b.known.seen)) (sym all) plays)

-- a worker has made all its events before others go on
settled : (w : ℕ) (b : PassView) (seen history own : List Event) → events_of w b.known.seen ≡ own → IsPrefix b.known.seen seen → IsPrefix seen history → events_of w history ≡ own → length (events_of w seen) ≡ length own
settled w b seen history own whole first rest all =
    let front : events_of w seen ≡ events_of w b.known.seen ++ events_of w first.0 = ap (events_of w) (sym first.1) ∙ events-append w b.known.seen first.0 in
    let back : events_of w history ≡ events_of w seen ++ events_of w rest.0 = ap (events_of w) (sym rest.1) ∙ events-append w seen rest.0 in
    omega (arith, ap length whole, ap length all, ap length front, ap length back, length-append (events_of w b.known.seen) (events_of w first.0), length-append (events_of w seen) (events_of w rest.0))

-- ---- the summary

-- numbers that are found from a place on
found_there : (all ys : List Reply) (calls a n : ℕ) → length ys ≡ n → ((j : ℕ) (y : Reply) → slice_get ys j ≡ Some y → slice_get all (calls + (a + j)) ≡ Some y)
    → map {A = ℕ} {B = ℤ} (λ i. number_found (slice_get all (calls + i))) (range_with_len a n) ≡ map {A = Reply} {B = ℤ} (λ y. number_found (Some y)) ys
found_there all [] calls a zero count each = refl
found_there all [] calls a (suc n) count each = absurd (omega (arith, count))
found_there all (y ∷ ys) calls a zero count each = absurd (omega (arith, count))
found_there all (y ∷ ys) calls a (suc n) count each =
    let here : a + 0 ≡ a = omega arith in
    let first : slice_get all (calls + a) ≡ Some y = ap (λ i. slice_get all (calls + i)) (sym here) ∙ each 0 y refl in
    ap₂ (λ (x : ℤ) (l : List ℤ). x ∷ l) (ap number_found first)
    (found_there all ys calls (a + 1) n (omega (arith, count)) (λ j z h. let same : (a + 1) + j ≡ a + suc j = omega arith in ap (λ i. slice_get all (calls + i)) same ∙ each (suc j) z h))

pub record SummaryLaws : Type 0 where
  pub summary : (conf : Conf) (seed workers calls : ℕ) (journal : List Mark) (p : Play) → IsLarge conf → 1 ≤ workers → workers ≤ 64 → workers * (calls + 1) ≤ most_events
      → played conf (observed (generated seed workers calls)) journal ≡ Some p → IsCompletePlay conf (observed (generated seed workers calls)) journal → IsObservedLast workers calls journal
      → summary_of calls p ≡ summary_due (draws_of seed workers calls)
  pub last : (workers calls : ℕ) (seen rest : List Event) → length (events_of 0 seen) ≡ calls → ((w : ℕ) → 0 < w → w < workers → length (events_of w seen) ≡ calls + 1) → ((w : ℕ) → 0 < w → w < workers → events_of w rest ≡ [])
      → IsObservedLast workers calls (marks_of (seen ++ rest))

-- ---- the whole, where worker 0 has these draws

module _ (law : OthersLaw) (plays_laws : PlayLaws) (wishes : WishLaws) (sums : SummaryLaws) (t : TableId) (conf : Conf) (seed workers calls : ℕ) (own : List Draw) (rest : List (List Step)) (first end : PassView) (others : List PassView) (numbers : List ℤ) (closed : Closed)
    (run : IsRun conf workers calls) (count : length own ≡ calls) (are : generated seed workers calls ≡ steps_of_draws 0 own ∷ rest)
    (h : HaveMade t conf (steps_of_draws 0 own ∷ rest) workers first others true) (o : Observes conf workers first end numbers) (c : IsClosed conf workers (others ++ end ∷ []) closed) where
  abbrev scripts : List (List Step)
  scripts = steps_of_draws 0 own ∷ rest

  size : length scripts ≡ workers
  size = ap length (sym are) ∙ workers_counted seed workers calls

  made : HasMade conf (steps_of_draws 0 own) first
  made = h.made (steps_of_draws 0 own) refl refl

  ended : HasEnded t 0 end
  ended = first_ended t conf scripts workers workers first end others true numbers h o

  at_end : slice_get (others ++ end ∷ []) (length others) ≡ Some end
  at_end = get_behind others end []

  -- another worker's place
  within : (k : ℕ) → suc k < workers → k < length others
  within k few = omega (arith, few, h.have_ended)

  at : (k : ℕ) (b : PassView) → k < length others → slice_get others k ≡ Some b → slice_get (others ++ end ∷ []) k ≡ Some b
  at k b few is = get_first others (end ∷ []) k few ∙ is

  asked : (w : ℕ) (script : List Step) → slice_get (observed scripts) w ≡ Some script → HasPlayed conf script (map wish_in (events_of w c.history)) (own_replies conf w c.history)
  asked zero script hs =
      let same : steps_of_draws 0 own ++ counters_read ≡ script = some_same (steps_of_draws 0 own ++ counters_read) script hs in
      subst (λ (s : List Step). HasPlayed conf s (map wish_in (events_of 0 c.history)) (own_replies conf 0 c.history)) same
      (in_history law conf (steps_of_draws 0 own ++ counters_read) 0 end c.history (observer_plays wishes conf workers own first end o.replies made o.goes) ended.all_own ended.worker (c.seen (length others) end at_end) (c.own (length others) end at_end))
  asked (suc k) script hs =
      let few : k < length others = within k (omega (arith, slice_get_within rest k script hs, size)) in
      let b = get_some others k few in
      let e = h.each k b.0 b.1 in
      in_history law conf script (suc k) b.0 c.history (h.plays k script b.0 hs b.1 refl) e.all_own e.worker (c.seen k b.0 (at k b.0 few b.1)) (c.own k b.0 (at k b.0 few b.1))

  whole : IsPlayedOut conf (observed scripts) c.history
  whole = record {
    legal = subst (λ n. all_legal n (start_of conf) c.history ≡ true) (sym size) c.legal;
    asked = asked;
    others = λ w past. c.others w (none_else workers (others ++ end ∷ []) (λ k b hb. (one_of_them t conf scripts workers workers first end others true numbers h o k b hb).1) w (omega (arith, past, size)));
  }

  abbrev play : Play
  play = play_of conf (observed scripts) c.history

  plays : played conf (observed scripts) closed.journal.marks ≡ Some play
  plays = ap (played conf (observed scripts)) c.journal ∙ plays_laws.play conf (observed scripts) c.history whole

  complete : IsCompletePlay conf (observed scripts) closed.journal.marks
  complete = subst (IsCompletePlay conf (observed scripts)) (sym c.journal) (plays_laws.complete conf (observed scripts) c.history whole)

  -- what worker 0 had seen when it looked
  seen : IsPrefix first.known.seen c.history
  seen = prefixes first.known.seen end.known.seen c.history o.goes.seen (c.seen (length others) end at_end)

  own_counted : length (events_of 0 first.known.seen) ≡ calls
  own_counted =
      let mine : events_of 0 first.known.seen ≡ first.known.own = ap (λ v. events_of v first.known.seen) (sym h.worker) ∙ h.all_own in
      let as_many : length (own_replies conf first.known.worker first.known.seen) ≡ length (map wish_in first.known.own) = made.in_turn.count in
      omega (arith, ap length mine, as_many, length-map first.known.own wish_in, made_counted wishes conf own first made, count)

  other_counted : (k : ℕ) → suc k < workers → (length (events_of (suc k) first.known.seen) ≡ calls + 1) × (events_of (suc k) seen.0 ≡ [])
  other_counted k few =
      let b = get_some others k (within k few) in
      let e = h.each k b.0 b.1 in
      let s = get_some scripts (suc k) (omega (arith, few, size)) in
      let d = drawn_at seed workers calls (suc k) s.0 (ap (λ (l : List (List Step)). slice_get l (suc k)) are ∙ s.1) in
      let its : events_of (suc k) b.0.known.seen ≡ b.0.known.own = ap (λ v. events_of v b.0.known.seen) (sym e.worker) ∙ e.all_own in
      let all : events_of (suc k) c.history ≡ b.0.known.own = ap (λ v. events_of v c.history) (sym e.worker) ∙ c.own k b.0 (at k b.0 (within k few) b.1) in
      let plays_all = subst (λ (l : List Step). PlaysAll conf l b.0) d.is (h.plays k s.0 b.0 s.1 b.1 refl) in
      let settles = settled (suc k) b.0 first.known.seen c.history b.0.known.own its (h.learned k b.0 b.1) seen all in (
        omega (arith, settles, plays_counted wishes conf (suc k) d.draws b.0 plays_all, d.count),
        none_besides (suc k) first.known.seen c.history seen.0 seen.1 (omega (arith, settles, ap length all)),
      )

  last : IsObservedLast workers calls closed.journal.marks
  last = subst (λ (l : List Mark). IsObservedLast workers calls l) (sym (c.journal ∙ ap marks_of (sym seen.1)))
      (sums.last workers calls first.known.seen seen.0 own_counted (λ w some few. (counted w some few).0) (λ w some few. (counted w some few).1))
    where
      counted : (w : ℕ) → 0 < w → w < workers → (length (events_of w first.known.seen) ≡ calls + 1) × (events_of w seen.0 ≡ [])
      counted zero some few = absurd (omega (arith, some))
      counted (suc k) some few = other_counted k few

  numbers_are : numbers ≡ (summary_of calls play).counters
  numbers_are =
      let before = own_replies conf first.known.worker first.known.seen in
      let later = o.replies ++ Ended ∷ [] in
      let had : own_replies conf 0 c.history ≡ before ++ later =
      sym (replies_whole law conf end.known.worker end.known.seen c.history end.known.own (c.seen (length others) end at_end) ended.all_own (c.own (length others) end at_end) ∙ ap (λ v. own_replies conf v c.history) ended.worker) ∙ o.goes.replies_are in
      let places : length before ≡ calls = made_counted wishes conf own first made ∙ count in
      let eight : length o.replies ≡ 8 = omega (arith, o.goes.count, length-append o.replies (Ended ∷ []), looks_counted) in
      o.found ∙ sym (found_there (own_replies conf 0 c.history) o.replies calls 0 8 eight
      (λ j y hy.
      let place : calls + (0 + j) ≡ length before + j = omega (arith, places) in
      ap₂ (λ (l : List Reply) i. slice_get l i) had place ∙ (get_past before later j ∙ (get_first o.replies (Ended ∷ []) j (slice_get_within o.replies j y hy) ∙ hy))))
    where
      looks_counted : length (wishes_of_looks ++ wish_to_end ∷ []) ≡ 9
      looks_counted = refl

  told : record { inserts = closed.counts.inserts; counters = numbers } ≡ summary_of calls play
  told = ap₂ (λ (n : ℕ) (l : List ℤ). record { inserts = n; counters = l }) (ap (λ (x : Counts). x.inserts) c.counts) numbers_are

  pub is_watched : IsWatched conf seed workers calls (record { inserts = closed.counts.inserts; counters = numbers })
  is_watched =
      let back : observed scripts ≡ observed (generated seed workers calls) = ap observed (sym are) in
      let plays_so = subst (λ (l : List (List Step)). played conf l closed.journal.marks ≡ Some play) back plays in
      let complete_so = subst (λ (l : List (List Step)). IsCompletePlay conf l closed.journal.marks) back complete in
      record {
        journal = closed.journal.marks;
        play = play;
        plays = plays_so;
        complete = complete_so;
        observed_last = last;
        told = told;
        due = told ∙ sums.summary conf seed workers calls closed.journal.marks play run.large run.some run.most run.few plays_so complete_so last;
      }

-- the draws of worker 0
record FirstDrawn (seed workers calls : ℕ) : Type 0 where
  own : List Draw
  rest : List (List Step)
  are : generated seed workers calls ≡ steps_of_draws 0 own ∷ rest
  count : length own ≡ calls

abbrev tail_of : List (List Step) → List (List Step)
tail_of [] = []
tail_of (s ∷ ss) = ss

head_tail : (l : List (List Step)) (s : List Step) → slice_get l 0 ≡ Some s → l ≡ s ∷ tail_of l
head_tail [] s h = absurd (cc (h))
head_tail (x ∷ xs) s h = let same : x ≡ s = cc (h) in ap (λ (v : List Step). v ∷ xs) same

first_drawn : (seed workers calls : ℕ) → 1 ≤ workers → FirstDrawn seed workers calls
first_drawn seed workers calls some =
    let all = generated seed workers calls in
    let s = get_some all 0 (omega (arith, some, workers_counted seed workers calls)) in
    let d = drawn_at seed workers calls 0 s.0 s.1 in
    record {
      own = d.draws;
      rest = tail_of all;
      are = head_tail all s.0 s.1 ∙ ap (λ (v : List Step). v ∷ tail_of all) d.is;
      count = d.count;
    }

pub watched : OthersLaw → PlayLaws → WishLaws → SummaryLaws → (t : TableId) (conf : Conf) (seed workers calls : ℕ) (first end : PassView) (others : List PassView) (all : Bool) (numbers : List ℤ) (closed : Closed) → IsRun conf workers calls
    → HaveMade t conf (generated seed workers calls) workers first others all → all ≡ true → Observes conf workers first end numbers → IsClosed conf workers (others ++ end ∷ []) closed → IsWatched conf seed workers calls (record { inserts = closed.counts.inserts; counters = numbers })
watched law play_law wishes sums t conf seed workers calls first end others all numbers closed run h so o c =
    let d = first_drawn seed workers calls run.some in
    let made = subst (λ b. HaveMade t conf (steps_of_draws 0 d.own ∷ d.rest) workers first others b) so (subst (λ (l : List (List Step)). HaveMade t conf l workers first others all) d.are h) in
    is_watched law play_law wishes sums t conf seed workers calls d.own d.rest first end others numbers closed run d.count d.are made o c
