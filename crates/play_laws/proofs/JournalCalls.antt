-- What a worker asks between two points of a play is what its call asks.
use Rattle.std.proofs.Common.{◌≡◌, ◌≢◌, inl, inr, ℕ, zero, suc, ◌<◌, ◌≤◌, Bool, true, false, cond, if◌then◌else◌, List, [], ◌∷◌, ◌++◌, length, map, take, drop, slice_get, Option, Some, None, refl, sym, ap, ◌∙◌, subst, append_assoc, take-append-drop, arith}
use Rattle.std.specs.Prelude.{nat_lt, slice_set, unwrap_or}
use Rattle.std.specs.Option.{option_and_then}
use Rattle.std.proofs.lemmas.Bool.Decides.{eqb_tells}
use Rattle.std.specs.List.{list_all}
use Rattle.std.proofs.lemmas.List.{append-nil, drop_at, length-drop}
use Rattle.std.proofs.lemmas.Option.{slice_get_within}
use Rattle.apcu_model.specs.declared.conf.Conf.{Conf}
use Rattle.apcu_model.specs.declared.request.Event.{Event}
use Rattle.apcu_model.specs.declared.journal.Mark.{Mark}
use Rattle.apcu_model.specs.declared.request.Request.{Request}
use Rattle.apcu_model.specs.declared.request.Reply.{Reply}
use Rattle.apcu_model.specs.declared.searching.Pattern.{Pattern}
use Rattle.apcu_model.specs.declared.searching.Fields.{Fields}
use Rattle.apcu_model.specs.declared.searching.List.TheVariants.{Active}
use Rattle.apcu_model.specs.Laws.{EventsKeep}
use Rattle.apcu_model.specs.History.{Stage, stage_of, reply_in, is_legal_mask}
use Rattle.pin_table.specs.Events.{events_of}
use Rattle.script_read.specs.declared.call.Call.{Call}
use Rattle.script_read.specs.declared.call.Call.TheVariants.{Walk}
use Rattle.script_read.specs.declared.script.Step.{Step}
use Rattle.script_read.specs.Play.{Wish, Next, Asks, Leaves, Each, Steps, Asking, Play, asks_each, asks_steps, asks_so, asking_of, slot_after, next_of, wanted, continued, nothing_played, replies_of, wish_of, event_of, after_wish, played_from, played}
use Rattle.play_laws.specs.JournalEvents.{events_from}
use Rattle.play_laws.specs.Own.{AreInTurn, own_replies_from, wish_in}
use Rattle.play_laws.proofs.JournalStages.{told_stage, played-joined}
use Rattle.play_laws.specs.Calls.{IsAskedIn, replies_in, wanted_by}
use Rattle.play_laws.specs.Exchanges.{answered_keys, exchanges_of, steps_in}
use Rattle.play_laws.specs.Walks.{has_item, times_given}
use Rattle.play_laws.proofs.CallWalks as calls
use Rattle.play_laws.proofs.WalkAnswers as answers
use Rattle.play_laws.specs.Journals.{MakesCall, answered_between, are_made, leaves_none, made_then}

-- ---- calls that are done leave what comes after

some_is : {A : Type 0} (x y : A) → Some x ≡ Some y → x ≡ y
some_is x y e = cc

leaves_is : (a b : List Reply) → Leaves a ≡ Leaves b → a ≡ b
leaves_is a b e = cc

each_leaves : (asked : List Request) (replies more others : List Reply) → asks_each asked replies ≡ Leaves others → asks_each asked (replies ++ more) ≡ Leaves (others ++ more)
each_leaves [] replies more others e = ap (λ (l : List Reply). Leaves (l ++ more)) (leaves_is replies others e)
each_leaves (first ∷ asked) [] more others e = absurd cc
each_leaves (first ∷ asked) (reply ∷ replies) more others e = each_leaves asked replies more others e

-- past the last slot nothing is asked
past_leaves : (slots : ℕ) (ask : ℕ → Request) (from : ℕ) (replies : List Reply) → nat_lt from slots ≡ false → asks_steps slots ask from replies ≡ Leaves replies
past_leaves slots ask from [] past = ap (λ (b : Bool). if b then Asks (ask from) else Leaves []) past
past_leaves slots ask from (reply ∷ replies) past = ap (λ (b : Bool). if b then asks_steps slots ask (slot_after slots from reply) replies else Leaves (reply ∷ replies)) past

steps_leave : (slots : ℕ) (ask : ℕ → Request) (from : ℕ) (replies more others : List Reply) → asks_steps slots ask from replies ≡ Leaves others → asks_steps slots ask from (replies ++ more) ≡ Leaves (others ++ more)
steps_leave slots ask from [] more others e = go (nat_lt from slots) refl e
  where
    go : (b : Bool) → nat_lt from slots ≡ b → (if b then Asks (ask from) else Leaves []) ≡ Leaves others → asks_steps slots ask from more ≡ Leaves (others ++ more)
    go true is e = absurd cc
    go false is e = past_leaves slots ask from more is ∙ ap (λ (l : List Reply). Leaves (l ++ more)) (leaves_is [] others e)
steps_leave slots ask from (reply ∷ replies) more others e = go (nat_lt from slots) (steps_leave slots ask (slot_after slots from reply) replies more others) e
  where
    go : (b : Bool) → (asks_steps slots ask (slot_after slots from reply) replies ≡ Leaves others → asks_steps slots ask (slot_after slots from reply) (replies ++ more) ≡ Leaves (others ++ more))
        → (if b then asks_steps slots ask (slot_after slots from reply) replies else Leaves (reply ∷ replies)) ≡ Leaves others
        → (if b then asks_steps slots ask (slot_after slots from reply) (replies ++ more) else Leaves (reply ∷ (replies ++ more))) ≡ Leaves (others ++ more)
    go true later e = later e
    go false later e = ap (λ (l : List Reply). Leaves (l ++ more)) (leaves_is (reply ∷ replies) others e)

so_leaves : (slots : ℕ) (asking : Asking) (replies more others : List Reply) → asks_so slots asking replies ≡ Leaves others → asks_so slots asking (replies ++ more) ≡ Leaves (others ++ more)
so_leaves slots (Each asked) replies more others e = each_leaves asked replies more others e
so_leaves slots (Steps ask) replies more others e = steps_leave slots ask 0 replies more others e

leaves_more : (conf : Conf) (call : Call) (replies more others : List Reply) → next_of conf call replies ≡ Leaves others → next_of conf call (replies ++ more) ≡ Leaves (others ++ more)
leaves_more conf call replies more others e = so_leaves conf.slots (asking_of call) replies more others e

-- what comes after calls that are made is for the others
past_made : (conf : Conf) (earlier rest : List Step) (replies more : List Reply) → are_made conf earlier replies ≡ true → wanted conf (earlier ++ rest) (replies ++ more) ≡ wanted conf rest more
past_made conf [] rest [] more made = refl
past_made conf [] rest (reply ∷ replies) more made = absurd cc
past_made conf (step ∷ earlier) rest replies more made = go (next_of conf step.call replies) refl made (λ others. past_made conf earlier rest others more)
  where
    go : (next : Next) → next_of conf step.call replies ≡ next → made_then (are_made conf earlier) next ≡ true
        → ((others : List Reply) → are_made conf earlier others ≡ true → wanted conf (earlier ++ rest) (others ++ more) ≡ wanted conf rest more)
        → continued step.t (wanted conf (earlier ++ rest)) (next_of conf step.call (replies ++ more)) ≡ wanted conf rest more
    go (Asks request) is made later = absurd cc
    go (Leaves others) is made later = ap (continued step.t (wanted conf (earlier ++ rest))) (leaves_more conf step.call replies more others is) ∙ later others made

-- a call asks as long as replies of its own are to come
asks_still : (conf : Conf) (step : Step) (later : List Step) (own : List Reply) (k : ℕ) (wish : Wish) → leaves_none (next_of conf step.call own) ≡ true → k < length own
    → wanted conf (step ∷ later) (take k own) ≡ Some wish → wanted_by conf step.t step.call (take k own) ≡ Some wish
asks_still conf step later own k wish none within is = go (next_of conf step.call (take k own)) refl is
  where
    some_left : (left : List Reply) → 0 < length left → (others : List Reply) → leaves_none (Leaves (others ++ left)) ≡ true → ⊥
    some_left [] some others none = omega arith
    some_left (reply ∷ left) some [] none = cc
    some_left (reply ∷ left) some (other ∷ others) none = cc

    go : (next : Next) → next_of conf step.call (take k own) ≡ next → continued step.t (wanted conf later) next ≡ Some wish → continued step.t (λ others. None) next ≡ Some wish
    go (Asks request) at is = is
    go (Leaves others) at is =
        let whole : next_of conf step.call own ≡ Leaves (others ++ drop k own) =
        ap (next_of conf step.call) (sym (take-append-drop k own)) ∙ leaves_more conf step.call (take k own) (drop k own) others at in
        absurd (some_left (drop k own) (omega (arith, length-drop k own, within)) others (sym (ap leaves_none whole) ∙ none))

-- ---- a worker's replies and events

set_same : {A : Type 0} (xs : List A) (i : ℕ) (x y : A) → slice_get xs i ≡ Some x → slice_get (slice_set xs i y) i ≡ Some y
set_same [] i x y at = absurd cc
set_same (z ∷ xs) zero x y at = refl
set_same (z ∷ xs) (suc i) x y at = set_same xs i x y at

set_other : {A : Type 0} (xs : List A) (i j : ℕ) (y : A) → i ≢ j → slice_get (slice_set xs i y) j ≡ slice_get xs j
set_other [] i j y other = refl
set_other (z ∷ xs) zero zero y other = absurd (other refl)
set_other (z ∷ xs) zero (suc j) y other = refl
set_other (z ∷ xs) (suc i) zero y other = refl
set_other (z ∷ xs) (suc i) (suc j) y other = set_other xs i j y (λ same. other (ap suc same))

replies_are : (p : Play) (w : ℕ) (rs : List Reply) → slice_get p.replies w ≡ Some rs → replies_of p w ≡ rs
replies_are p w rs at = ap (λ (o : Option (List Reply)). unwrap_or o []) at

-- In some events a worker has asked these wishes, and has these replies of its own, after others that
-- it had: each wish is what it wants then, and the play after the events has all the replies.
record Told (w : ℕ) (own : List Reply) (wishes : List Wish) (rs : List Reply) (wants : List Reply → Option Wish) (q : Play) : Type 0 where
  end : slice_get q.replies w ≡ Some (rs ++ own)
  count : length own ≡ length wishes
  each : (k : ℕ) (wish : Wish) → slice_get wishes k ≡ Some wish → wants (rs ++ take k own) ≡ Some wish

-- one more in front
in_front : (w : ℕ) (r : Reply) (first : Wish) (own : List Reply) (wishes : List Wish) (rs : List Reply) (wants : List Reply → Option Wish) (q : Play) → wants rs ≡ Some first
    → Told w own wishes (rs ++ r ∷ []) wants q → Told w (r ∷ own) (first ∷ wishes) rs wants q
in_front w r first own wishes rs wants q is told = record {
  end = told.end ∙ ap (λ (l : List Reply). Some l) (append_assoc rs (r ∷ []) own);
  count = ap suc told.count;
  each = at_each;
}
  where
    at_each : (k : ℕ) (wish : Wish) → slice_get (first ∷ wishes) k ≡ Some wish → wants (rs ++ take k (r ∷ own)) ≡ Some wish
    at_each zero wish at = ap wants (append-nil rs) ∙ (is ∙ at)
    at_each (suc k) wish at = ap wants (sym (append_assoc rs (r ∷ []) (take k own))) ∙ told.each k wish at

-- what the journal tells of a worker from a play on
abbrev ToldOn : Conf → List (List Step) → ℕ → Play → List Mark → List Reply → (List Reply → Option Wish) → Play → Type 0
ToldOn conf scripts w p marks rs wants q =
    Told w (own_replies_from w p.stage (events_from conf scripts p marks)) (map wish_in (events_of w (events_from conf scripts p marks))) rs wants q

told_by : (conf : Conf) (scripts : List (List Step)) (w : ℕ) (script : List Step) → slice_get scripts w ≡ Some script → (p q : Play) (marks : List Mark) (rs : List Reply) → slice_get p.replies w ≡ Some rs
    → played_from conf scripts p marks ≡ Some q → ToldOn conf scripts w p marks rs (wanted conf script) q
told_by conf scripts w script at p q [] rs had is = record {
  end = subst (λ (x : Play). slice_get x.replies w ≡ Some (rs ++ [])) (some_is p q is) (had ∙ ap (λ (l : List Reply). Some l) (sym (append-nil rs)));
  count = refl;
  each = λ k wish there. absurd (cc there);
}
told_by conf scripts w script at p q (mark ∷ marks) rs had is =
    go (is_legal_mask (length scripts) mark.worker p.stage mark.mask) (wish_of conf scripts p mark.worker) refl (λ wish now had_now on. told_by conf scripts w script at (after_wish p mark wish) q marks now had_now on) is
  where
    goes_on : (wish : Wish) → wish_of conf scripts p mark.worker ≡ Some wish
        → ((now : List Reply) → slice_get (after_wish p mark wish).replies w ≡ Some now → ToldOn conf scripts w (after_wish p mark wish) marks now (wanted conf script) q)
        → Told w (own_replies_from w p.stage (event_of mark wish ∷ events_from conf scripts (after_wish p mark wish) marks))
        (map wish_in (events_of w (event_of mark wish ∷ events_from conf scripts (after_wish p mark wish) marks))) rs (wanted conf script) q
    goes_on wish wished later =
        let e = event_of mark wish in
        let r = reply_in p.stage e in
        let es = events_from conf scripts (after_wish p mark wish) marks in
        let own = own_replies_from w (after_wish p mark wish).stage es in
        let evs = events_of w es in
        elim (eqb_tells mark.worker w) [
          | inl t ↦
              let first : wanted conf script rs ≡ Some (wish_in e) =
              sym (ap (wanted conf script) (replies_are p w rs had))
              ∙ (sym (ap (λ (o : Option (List Step)). option_and_then (λ s. wanted conf s (replies_of p w)) o) at) ∙ (ap (wish_of conf scripts p) (sym t.1) ∙ wished)) in
              let now : slice_get (after_wish p mark wish).replies w ≡ Some (rs ++ r ∷ []) =
              ap (λ (v : ℕ). slice_get (slice_set p.replies v (replies_of p v ++ r ∷ [])) w) t.1
              ∙ (set_same p.replies w rs (replies_of p w ++ r ∷ []) had ∙ ap (λ (l : List Reply). Some (l ++ r ∷ [])) (replies_are p w rs had)) in
              subst (λ (b : Bool). Told w (cond b (r ∷ own) own) (map wish_in (cond b (e ∷ evs) evs)) rs (wanted conf script) q) (sym t.0)
              (in_front w r (wish_in e) own (map wish_in evs) rs (wanted conf script) q first (later (rs ++ r ∷ []) now))
          | inr t ↦
              let now : slice_get (after_wish p mark wish).replies w ≡ Some rs = set_other p.replies mark.worker w (replies_of p mark.worker ++ r ∷ []) t.1 ∙ had in
              subst (λ (b : Bool). Told w (cond b (r ∷ own) own) (map wish_in (cond b (e ∷ evs) evs)) rs (wanted conf script) q) (sym t.0) (later rs now)
        ]

    go : (legal : Bool) (o : Option Wish) → wish_of conf scripts p mark.worker ≡ o
        → ((wish : Wish) (now : List Reply) → slice_get (after_wish p mark wish).replies w ≡ Some now → played_from conf scripts (after_wish p mark wish) marks ≡ Some q → ToldOn conf scripts w (after_wish p mark wish) marks now (wanted conf script) q)
        → option_and_then (λ (x : Play). played_from conf scripts x marks) (if legal then option_and_then (λ wish. Some (after_wish p mark wish)) o else None) ≡ Some q
        → Told w (own_replies_from w p.stage (unwrap_or (option_and_then (λ wish. Some (event_of mark wish ∷ events_from conf scripts (after_wish p mark wish) marks)) o) []))
        (map wish_in (events_of w (unwrap_or (option_and_then (λ wish. Some (event_of mark wish ∷ events_from conf scripts (after_wish p mark wish) marks)) o) []))) rs (wanted conf script) q
    go false o wished later is = absurd (cc is)
    go true None wished later is = absurd (cc is)
    go true (Some wish) wished later is = goes_on wish wished (λ now had_now. later wish now had_now is)

-- no worker has a reply yet
none_yet : (scripts : List (List Step)) (w : ℕ) (script : List Step) → slice_get scripts w ≡ Some script → slice_get (map {A = List Step} {B = List Reply} (λ script. []) scripts) w ≡ Some []
none_yet [] w script at = absurd cc
none_yet (s ∷ scripts) zero script at = refl
none_yet (s ∷ scripts) (suc w) script at = none_yet scripts w script at

-- ---- between two points

pub record CallTold (conf : Conf) (early late : List Event) (p q : Play) (w : ℕ) (step : Step) : Type 0 where
  pub asked : IsAskedIn conf step.t step.call early late w
  pub replies : replies_in conf early late w ≡ answered_between p q w

pub call_told : (conf : Conf) (scripts : List (List Step)) (before during : List Mark) (p q : Play) (w : ℕ) (step : Step) → played conf scripts before ≡ Some p → played conf scripts (before ++ during) ≡ Some q
    → MakesCall conf scripts p q w step → CallTold conf (events_from conf scripts (nothing_played conf scripts) before) (events_from conf scripts p during) p q w step
call_told conf scripts before during p q w step first whole makes =
    let o = nothing_played conf scripts in
    let script = makes.earlier ++ step ∷ makes.later in
    let early = events_from conf scripts o before in
    let late = events_from conf scripts p during in
    let a = told_by conf scripts w script makes.script o p before [] (none_yet scripts w script makes.script) first in
    let rs = own_replies_from w o.stage early in
    let b = told_by conf scripts w script makes.script p q during rs a.end (played-joined conf scripts o p q before during first whole) in
    let own = own_replies_from w p.stage late in
    let stage : stage_of conf early ≡ p.stage = (told_stage conf scripts o p before first).0 in
    let had : replies_of p w ≡ rs = replies_are p w rs a.end in
    let between : answered_between p q w ≡ own =
    ap (λ (l : List Reply). drop (length l) (replies_of q w)) had ∙ (ap (drop (length rs)) (replies_are q w (rs ++ own) b.end) ∙ drop_at rs own (length rs) refl) in
    let none : leaves_none (next_of conf step.call own) ≡ true = subst (λ (l : List Reply). leaves_none (next_of conf step.call l) ≡ true) between makes.own in
    let made : are_made conf makes.earlier rs ≡ true = subst (λ (l : List Reply). are_made conf makes.earlier l ≡ true) had makes.made in
    let each : (k : ℕ) (wish : Wish) → slice_get (map wish_in (events_of w late)) k ≡ Some wish → wanted_by conf step.t step.call (take k own) ≡ Some wish =
    λ k wish there.
    let within : k < length own = let inside = slice_get_within (map wish_in (events_of w late)) k wish there in let n = b.count in omega (arith, inside, n) in
    asks_still conf step makes.later own k wish none within (sym (past_made conf makes.earlier (step ∷ makes.later) rs (take k own) made) ∙ b.each k wish there)
    in
    record {
      asked = subst (λ (m : Stage). AreInTurn (wanted_by conf step.t step.call) (map wish_in (events_of w late)) (own_replies_from w m late)) (sym stage) (record { count = b.count; each = each });
      replies = ap (λ (m : Stage). own_replies_from w m late) stage ∙ sym between;
    }

-- ---- walks

pub once : EventsKeep → (conf : Conf) (early late : List Event) (p q : Play) (w : ℕ) (step : Step) (wanted : Option Pattern) (size : ℕ) (fields : Fields) (key : List ℕ)
    → step.call ≡ Walk wanted fields size Active → CallTold conf early late p q w step → times_given key (answered_keys (exchanges_of conf early late w)) ≤ 1
once law conf early late p q w step wanted size fields key is told =
    answers.once law wanted size fields conf early late w key
    (calls.walk conf step.t wanted fields size early late w (subst (λ (call : Call). IsAskedIn conf step.t call early late w) is told.asked))

pub all : EventsKeep → (conf : Conf) (early late : List Event) (p q : Play) (w : ℕ) (step : Step) (wanted : Option Pattern) (size : ℕ) (fields : Fields) (key : List ℕ) → 1 ≤ size → 1 ≤ conf.slots
    → step.call ≡ Walk wanted fields size Active → next_of conf step.call (answered_between p q w) ≡ Leaves [] → CallTold conf early late p q w step
    → list_all (has_item wanted key) (steps_in (exchanges_of conf early late w)) ≡ true → times_given key (answered_keys (exchanges_of conf early late w)) ≡ 1
all law conf early late p q w step wanted size fields key some slots is done told there =
    let asked = subst (λ (call : Call). IsAskedIn conf step.t call early late w) is told.asked in
    let ended : wanted_by conf step.t (Walk wanted fields size Active) (replies_in conf early late w) ≡ None =
    ap (λ (l : List Reply). wanted_by conf step.t (Walk wanted fields size Active) l) told.replies
    ∙ ap (continued step.t (λ others. None)) (ap (λ (call : Call). next_of conf call (answered_between p q w)) (sym is) ∙ done) in
    answers.all law wanted size fields conf early late w key slots (calls.walk conf step.t wanted fields size early late w asked)
    (calls.whole law conf step.t wanted fields size early late w some slots asked ended) there
