-- Worker 0 learns of the others' ends, one after the other.
use Rattle.std.proofs.Common.{◌≡◌, ℕ, suc, ◌≤◌, inl, inr, Bool, true, false, List, [], ◌∷◌, ◌++◌, length, map, slice_get, Some, refl, sym, ap, ap₂, ◌∙◌, subst, arith, length-append, append_assoc}
use Rattle.std.specs.Prelude.{Result, Ok, Err, OnOk, IfSome, is_ok, ◌&&◌}
use Rattle.std.specs.Result.{result_ok}
use Rattle.std.proofs.lemmas.List.{nil_from_length}
use mathlib.Core.List.{IsPrefix}
use Rattle.atomic_table.specs.Seated.{TableId}
use Rattle.apcu_model.specs.declared.conf.Conf.{Conf}
use Rattle.apcu_model.specs.declared.request.Event.{Event}
use Rattle.apcu_model.specs.declared.request.Reply.{Reply}
use Rattle.pin_table.specs.Values.{PassView}
use Rattle.pin_table.specs.Events.{events_of}
use Rattle.script_read.specs.declared.script.Step.{Step}
use Rattle.play_laws.specs.Own.{own_replies, wish_in, AreInTurn}
use Rattle.play_laws.specs.Parts.{events-append}
use Rattle.shared_cache.specs.LearnedEnds.{Learns}
use Rattle.script_read.specs.Play.{wanted}
use Rattle.worker_play.specs.declared.script.Lines.{Lines}
use Rattle.worker_play.specs.Ends.{HasEnded, HasMade, PlaysAll, PlaysOut}
use Rattle.worker_play.specs.Goes.{KnowsOwnEvents}
use Rattle.crew_play.specs.GeneratedRuns.{HaveMade}
use Rattle.crew_play.proofs.Crews.{get_more}
use Rattle.crew_play.proofs.EndedCrews.{OthersLaw}

pub prefixes : {A : Type 0} (xs ys zs : List A) → IsPrefix xs ys → IsPrefix ys zs → IsPrefix xs zs
prefixes xs ys zs a b = (a.0 ++ b.0, sym (append_assoc xs a.0 b.0) ∙ (ap (λ (l : List _). l ++ b.0) a.1 ∙ b.1))

-- none of a worker's events are among what is seen besides
pub none_besides : (w : ℕ) (seen more : List Event) (rest : List Event) → seen ++ rest ≡ more → length (events_of w more) ≡ length (events_of w seen) → events_of w rest ≡ []
none_besides w seen more rest parts same =
    let split : events_of w more ≡ events_of w seen ++ events_of w rest = ap (events_of w) (sym parts) ∙ events-append w seen rest in
    nil_from_length (events_of w rest) (omega (arith, same, ap length split, length-append (events_of w seen) (events_of w rest)))

-- what is learned changes nothing of a worker's own replies
learned_replies : OthersLaw → (conf : Conf) (workers : ℕ) (p q e : PassView) → Learns conf workers p q e → KnowsOwnEvents p → own_replies conf q.known.worker q.known.seen ≡ own_replies conf p.known.worker p.known.seen
learned_replies law conf workers p q e l whole =
    let w = p.known.worker in
    let rest = l.before.0 in
    let own : events_of w q.known.seen ≡ events_of w p.known.seen = ap (λ v. events_of v q.known.seen) (sym l.worker) ∙ (l.all_own ∙ (l.own ∙ sym whole)) in
    let none = none_besides w p.known.seen q.known.seen rest l.before.1 (ap length own) in
    ap₂ (own_replies conf) l.worker (sym l.before.1) ∙ law.others conf w p.known.seen rest none

-- nor of what it has made
pub still_made : OthersLaw → (conf : Conf) (workers : ℕ) (p q e : PassView) (script : List Step) → Learns conf workers p q e → KnowsOwnEvents p → HasMade conf script p → HasMade conf script q
still_made law conf workers p q e script l whole made =
    let same = sym (learned_replies law conf workers p q e l whole) in
    record {
      in_turn = subst (λ (rs : List Reply). AreInTurn (wanted conf script) (map wish_in q.known.own) rs) same
          (subst (λ (own : List Event). AreInTurn (wanted conf script) (map wish_in own) (own_replies conf p.known.worker p.known.seen)) (sym l.own) made.in_turn);
      done = λ later. ap (λ (rs : List Reply). wanted conf script (rs ++ later)) (sym same) ∙ made.done later;
    }

-- worker 0 alone
pub first_alone : (t : TableId) (conf : Conf) (scripts : List (List Step)) (first : PassView) (all : Bool) → first.table ≡ t → first.known.worker ≡ 0 → KnowsOwnEvents first → 9 ≤ first.known.left
    → ((script : List Step) → slice_get scripts 0 ≡ Some script → all ≡ true → HasMade conf script first) → HaveMade t conf scripts 1 first [] all
first_alone t conf scripts first all table worker whole left made = record {
  table = table;
  worker = worker;
  all_own = whole;
  left = left;
  made = made;
  have_ended = refl;
  each = λ k b h. absurd (cc (h));
  plays = λ k script b hs h. absurd (cc (h));
  learned = λ k b h. absurd (cc (h));
}

-- and another one has ended
pub one_more : OthersLaw → (t : TableId) (conf : Conf) (workers : ℕ) (scripts : List (List Step)) (count : ℕ) (p q e : PassView) (others : List PassView) (script : List Step) (before all : Bool) → HaveMade t conf scripts count p others before → Learns conf workers p q e → HasEnded t count e
    → slice_get scripts count ≡ Some script → (all ≡ true → before ≡ true) → (all ≡ true → PlaysAll conf script e) → HaveMade t conf scripts (suc count) q (others ++ e ∷ []) all
one_more law t conf workers scripts count p q e others script before all h l ended is both its = record {
  table = l.table ∙ h.table;
  worker = l.worker ∙ h.worker;
  all_own = l.all_own;
  left = omega (arith, h.left, l.left);
  made = λ s hs yes. still_made law conf workers p q e s l h.all_own (h.made s hs (both yes));
  have_ended = omega (arith, length-append others (e ∷ []), h.have_ended);
  each = λ k b hb. elim (get_more others e k b hb) [
    | inl there ↦ h.each k b there
    | inr (at, same) ↦
        let here : count ≡ suc k = omega (arith, at, h.have_ended) in
        subst (λ v. HasEnded t (suc k) v) same (subst (λ n. HasEnded t n e) here ended)
  ];
  plays = λ k s b hs hb yes. elim (get_more others e k b hb) [
    | inl there ↦ h.plays k s b hs there (both yes)
    | inr (at, same) ↦
        let here : suc k ≡ count = omega (arith, at, h.have_ended) in
        let found : Some script ≡ Some s = sym is ∙ (ap (slice_get scripts) (sym here) ∙ hs) in
        let whose : script ≡ s = cc (found) in
        subst (λ v. PlaysAll conf s v) same (subst (λ (v : List Step). PlaysAll conf v e) whose (its yes))
  ];
  learned = λ k b hb. elim (get_more others e k b hb) [
    | inl there ↦ prefixes b.known.seen p.known.seen q.known.seen (h.learned k b there) l.before
    | inr (at, same) ↦ subst (λ (v : PassView). IsPrefix v.known.seen q.known.seen) same l.other
  ];
}

-- ---- the workers that have made all calls

pub others_made : {X E : Type 0} (others : Bool) (r : Result X E) → (others && is_ok r) ≡ true → others ≡ true
others_made true r so = refl
others_made false r so = absurd (cc (so))

pub own_made : {X E P : Type 0} (others : Bool) (r : Result X E) → (others && is_ok r) ≡ true → OnOk r P → P
own_made true (Ok x) so p = p
own_made true (Err e) so p = absurd (cc (so))
own_made false r so p = absurd (cc (so))

pub all_played : {E : Type 0} (conf : Conf) (lines : Lines) (script : List Step) (b : PassView) (r : Result (List ℕ) E) → IfSome (result_ok r) (λ text. PlaysOut conf lines script b text) → OnOk r (PlaysAll conf script b)
all_played conf lines script b (Ok text) plays = plays.played
all_played conf lines script b (Err e) plays = tt
