-- What the workers of generated scripts have asked, counted wish by wish.
use Rattle.std.proofs.Common.{◌≡◌, ℕ, zero, suc, ◌+◌, ◌<◌, ◌≤◌, inl, inr, List, [], ◌∷◌, ◌++◌, length, map, take, slice_get, Option, Some, None, refl, sym, ap, ◌∙◌, subst, arith, length-append, length-take-le}
use Rattle.std.proofs.lemmas.List.{length-map}
use Rattle.std.proofs.lemmas.Bool.{cases_lt}
use Rattle.std.proofs.lemmas.Option.{slice_get_within}
use Rattle.apcu_model.specs.declared.conf.Conf.{Conf}
use Rattle.apcu_model.specs.declared.request.Reply.{Reply}
use Rattle.apcu_model.specs.declared.request.Reply.TheVariants.{Ended}
use Rattle.pin_table.specs.Values.{PassView}
use Rattle.script_read.specs.GeneratedScripts.{Draw, steps_of_draws}
use Rattle.script_read.specs.Play.{Wish, wanted}
use Rattle.play_laws.specs.Own.{own_replies, wish_in, AreInTurn, HasPlayed}
use Rattle.play_laws.specs.Parts.{get_joined}
use Rattle.play_laws.specs.Observer.{counters_read, wish_to_end, wishes_of_draws, wishes_of_looks}
use Rattle.worker_play.specs.Ends.{HasMade, PlaysAll}
use Rattle.worker_play.specs.Goes.{GoesOn}
use Rattle.crew_play.proofs.EndedCrews.{get_some}

-- what generated scripts want depends on nothing but how many replies there were
pub record WishLaws : Type 0 where
  pub others : (conf : Conf) (worker : ℕ) (draws : List Draw) (replies : List Reply)
      → wanted conf (steps_of_draws worker draws) replies ≡ slice_get (wishes_of_draws worker draws ++ wish_to_end ∷ []) (length replies)
  pub observer : (conf : Conf) (draws : List Draw) (replies : List Reply)
      → wanted conf (steps_of_draws 0 draws ++ counters_read) replies ≡ slice_get (wishes_of_draws 0 draws ++ (wishes_of_looks ++ wish_to_end ∷ [])) (length replies)

-- ---- places of joined lists

pub get_first : {A : Type 0} (xs ys : List A) (k : ℕ) → k < length xs → slice_get (xs ++ ys) k ≡ slice_get xs k
get_first [] ys k h = absurd (omega (arith, h))
get_first (x ∷ xs) ys zero h = refl
get_first (x ∷ xs) ys (suc k) h = get_first xs ys k (omega (arith, h))

pub get_past : {A : Type 0} (xs ys : List A) (j : ℕ) → slice_get (xs ++ ys) (length xs + j) ≡ slice_get ys j
get_past [] ys j = let same : 0 + j ≡ j = omega arith in ap (λ k. slice_get ys k) same
get_past (x ∷ xs) ys j =
    let count : length (x ∷ xs) + j ≡ suc (length xs + j) = omega arith in
    ap (λ k. slice_get (x ∷ (xs ++ ys)) k) count ∙ get_past xs ys j

none_past : {A : Type 0} (xs : List A) (k : ℕ) → slice_get xs k ≡ None → length xs ≤ k
none_past [] k h = omega arith
none_past (x ∷ xs) zero h = absurd (cc (h))
none_past (x ∷ xs) (suc k) h = omega (arith, none_past xs k h)

-- ---- wishes that a list gives in turn

abbrev ByCount : (List Reply → Option Wish) → List Wish → Type 0
ByCount wants all = (replies : List Reply) → wants replies ≡ slice_get all (length replies)

-- each wish is that of the list at its place
in_list : (wants : List Reply → Option Wish) (all ws : List Wish) (rs : List Reply) → ByCount wants all → AreInTurn wants ws rs → (k : ℕ) (w : Wish) → slice_get ws k ≡ Some w → slice_get all k ≡ Some w
in_list wants all ws rs by a k w h =
    let few : k ≤ length rs = omega (arith, slice_get_within ws k w h, a.count) in
    sym (by (take k rs) ∙ ap (λ n. slice_get all n) (length-take-le k rs few)) ∙ a.each k w h

-- and what is that is in turn
as_list : (wants : List Reply → Option Wish) (all ws : List Wish) (rs : List Reply) → ByCount wants all → length rs ≡ length ws → ((k : ℕ) (w : Wish) → slice_get ws k ≡ Some w → slice_get all k ≡ Some w) → AreInTurn wants ws rs
as_list wants all ws rs by count each = record {
  count = count;
  each = λ k w h.
      let few : k ≤ length rs = omega (arith, slice_get_within ws k w h, count) in
      by (take k rs) ∙ (ap (λ n. slice_get all n) (length-take-le k rs few) ∙ each k w h);
}

-- ---- the workers that have yet to end

wishes_counted : (worker : ℕ) (draws : List Draw) → length (wishes_of_draws worker draws) ≡ length draws
wishes_counted worker draws = length-map draws _

-- it was answered as often as there were draws
pub made_counted : WishLaws → (conf : Conf) (draws : List Draw) (p : PassView) → HasMade conf (steps_of_draws 0 draws) p → length (own_replies conf p.known.worker p.known.seen) ≡ length draws
made_counted laws conf draws p made =
    let ws = wishes_of_draws 0 draws in
    let rs = own_replies conf p.known.worker p.known.seen in
    let first : slice_get (ws ++ wish_to_end ∷ []) (length (rs ++ [])) ≡ Some wish_to_end = sym (laws.others conf 0 draws (rs ++ [])) ∙ made.done [] in
    let last : slice_get (ws ++ wish_to_end ∷ []) (length (rs ++ Ended ∷ [])) ≡ None = sym (laws.others conf 0 draws (rs ++ Ended ∷ [])) ∙ made.done (Ended ∷ []) in
    omega (arith, slice_get_within (ws ++ wish_to_end ∷ []) (length (rs ++ [])) wish_to_end first, none_past (ws ++ wish_to_end ∷ []) (length (rs ++ Ended ∷ [])) last, length-append ws (wish_to_end ∷ []), length-append rs [], length-append rs (Ended ∷ []), wishes_counted 0 draws)

-- the observer's wishes behind its draws
looks_end : slice_get (wishes_of_looks ++ wish_to_end ∷ []) 9 ≡ None
looks_end = refl

looks_counted : length (wishes_of_looks ++ wish_to_end ∷ []) ≡ 9
looks_counted = refl

-- with its looks and its end it has played all
pub observer_plays : WishLaws → (conf : Conf) (workers : ℕ) (draws : List Draw) (p b : PassView) (replies : List Reply) → HasMade conf (steps_of_draws 0 draws) p → GoesOn conf workers p b (wishes_of_looks ++ wish_to_end ∷ []) (replies ++ Ended ∷ [])
    → PlaysAll conf (steps_of_draws 0 draws ++ counters_read) b
observer_plays laws conf workers draws p b replies made goes =
    let ws = wishes_of_draws 0 draws in
    let later = wishes_of_looks ++ wish_to_end ∷ [] in
    let all = ws ++ later in
    let asked = map wish_in p.known.own in
    let rs = own_replies conf p.known.worker p.known.seen in
    let more = replies ++ Ended ∷ [] in
    let wants = wanted conf (steps_of_draws 0 draws ++ counters_read) in
    let count : length rs ≡ length ws = made_counted laws conf draws p made ∙ sym (wishes_counted 0 draws) in
    let played : HasPlayed conf (steps_of_draws 0 draws ++ counters_read) (asked ++ later) (rs ++ more) = record {
      in_turn = as_list wants all (asked ++ later) (rs ++ more) (laws.observer conf draws)
          (omega (arith, length-append rs more, length-append asked later, made.in_turn.count, goes.count))
          (λ k w h. elim (get_joined asked later k w h) [
            | inl here ↦
                let there = in_list (wanted conf (steps_of_draws 0 draws)) (ws ++ wish_to_end ∷ []) asked rs (laws.others conf 0 draws) made.in_turn k w here in
                let few : k < length ws = omega (arith, slice_get_within asked k w here, made.in_turn.count, count) in
                get_first ws later k few ∙ (sym (get_first ws (wish_to_end ∷ []) k few) ∙ there)
            | inr (j, is, behind) ↦
                let place : k ≡ length ws + j = omega (arith, is, made.in_turn.count, count) in
                ap (λ n. slice_get all n) place ∙ (get_past ws later j ∙ behind)
          ]);
      done =
          let place : length (rs ++ more) ≡ length ws + 9 = omega (arith, length-append rs more, goes.count, looks_counted, count) in
          laws.observer conf draws (rs ++ more) ∙ (ap (λ n. slice_get all n) place ∙ (get_past ws later 9 ∙ looks_end));
    } in
    subst (λ (l : List Reply). HasPlayed conf (steps_of_draws 0 draws ++ counters_read) (map wish_in b.known.own) l) (sym goes.replies_are)
    (subst (λ (l : List Wish). HasPlayed conf (steps_of_draws 0 draws ++ counters_read) l (rs ++ more)) (sym goes.own) played)

-- ---- the workers that have ended

-- it made an event for each draw, and one to end
pub plays_counted : WishLaws → (conf : Conf) (worker : ℕ) (draws : List Draw) (b : PassView) → PlaysAll conf (steps_of_draws worker draws) b → length b.known.own ≡ length draws + 1
plays_counted laws conf worker draws b plays =
    let all = wishes_of_draws worker draws ++ wish_to_end ∷ [] in
    let asked = map wish_in b.known.own in
    let rs = own_replies conf b.known.worker b.known.seen in
    let least : length all ≤ length rs = none_past all (length rs) (sym (laws.others conf worker draws rs) ∙ plays.done) in
    let size : length all ≡ length draws + 1 = length-append (wishes_of_draws worker draws) (wish_to_end ∷ []) ∙ ap (λ n. n + 1) (wishes_counted worker draws) in
    let as_many : length asked ≡ length b.known.own = length-map b.known.own wish_in in
    elim (cases_lt (length all) (length asked)) [
      | inl many ↦
          let last = get_some asked (length all) many in
          absurd (omega (arith, slice_get_within all (length all) last.0 (in_list (wanted conf (steps_of_draws worker draws)) all asked rs (laws.others conf worker draws) plays.in_turn (length all) last.0 last.1)))
      | inr few ↦ omega (arith, few, least, size, as_many, plays.in_turn.count)
    ]
