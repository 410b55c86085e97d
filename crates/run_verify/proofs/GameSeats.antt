-- The seats of a game, from its begin to its end.
use Rattle.std.proofs.Common.{◌≡◌, ◌≢◌, ◌⊎◌, inl, inr, ℕ, zero, suc, ◌+◌, ◌<◌, ◌≤◌, Bool, true, false, cond, List, [], ◌∷◌, ◌++◌, length, drop, map, Option, Some, refl, ap, ap₂, sym, ◌∙◌, subst, append_assoc, arith}
use Rattle.std.specs.Prelude.{◌&&◌, ◌==◌, not, is_none, nat_lt, slice_get, unwrap_or}
use Rattle.std.proofs.lemmas.Bool.{cases_eq, cases_lt}
use Rattle.std.proofs.lemmas.List.{append-nil, length-map}
use Rattle.std.proofs.lemmas.Option.{slice_get_within}
use Rattle.std.proofs.Math.ListN.{drop_of_length-le}
use Rattle.apcu_model.specs.declared.conf.Clock.{Clock}
use Rattle.apcu_model.specs.declared.conf.Conf.{Conf}
use Rattle.apcu_model.specs.declared.request.Request.{Request}
use Rattle.apcu_model.specs.declared.request.Reply.{Reply}
use Rattle.script_read.specs.declared.script.Step.{Step}
use Rattle.script_read.specs.Clock.{timed_step, timed, all_timed}
use Rattle.script_read.specs.Play.{Wish, Asking, Each, Steps, Next, Asks, Leaves, asking_of, asks_each, next_of, wanted, continued, are_done}
use Rattle.reply_text.specs.Lines.{script_lines, texts_of}
use Rattle.run_verify.specs.declared.seat.Seat.{Seat}
use Rattle.run_verify.specs.Seats.{next_from, IsSeat, IsFirst, KnowsDone}
use Rattle.run_verify.specs.Games.{BeginsGame, KnowsEnd, TellsAll}
use Rattle.run_verify.proofs.CallProgress.{starts, begins_within, whole, drop_at, ends_now, has_ended, empty_list, some_list}
use Rattle.run_verify.proofs.TimedScripts.{script_at}

-- ---- how it begins

drop_none : {X : Type 0} (l : List X) → drop 0 l ≡ l
drop_none [] = refl
drop_none (x ∷ xs) = refl

first_seat : (conf : Conf) (script : List Step) (seat : Seat) → IsFirst seat → IsSeat conf script [] seat
first_seat conf script seat f = record {
  within = omega (arith, f.step);
  wants = λ more.
      sym (ap (λ k. wanted conf (drop k script) (seat.replies ++ more)) f.step
      ∙ (ap (λ (l : List Step). wanted conf l (seat.replies ++ more)) (drop_none script) ∙ ap (λ (l : List Reply). wanted conf script (l ++ more)) f.replies));
  text = λ more.
      sym (ap (λ k. seat.text ++ script_lines conf (drop k script) (seat.replies ++ more)) f.step
      ∙ (ap (λ (l : List Step). seat.text ++ script_lines conf l (seat.replies ++ more)) (drop_none script)
      ∙ (ap (λ (l : List Reply). seat.text ++ script_lines conf script (l ++ more)) f.replies ∙ ap (λ l. l ++ script_lines conf script more) f.text_is)));
  call = λ step here. begins_within conf step.call seat f.replies f.from;
}

-- all stand before their first call
abbrev pub AreFirst : List Seat → Type 0
AreFirst [] = Unit {0}
AreFirst (seat ∷ seats) = IsFirst seat × AreFirst seats

pub one_first : (seats : List Seat) (seat : Seat) → AreFirst seats → IsFirst seat → AreFirst (seats ++ seat ∷ [])
one_first [] seat all f = (f, tt)
one_first (x ∷ xs) seat all f = (all.0, one_first xs seat all.1 f)

first_at : (seats : List Seat) (v : ℕ) (seat : Seat) → AreFirst seats → slice_get seats v ≡ Some seat → IsFirst seat
first_at [] v seat all h = absurd (cc h)
first_at (x ∷ xs) zero seat all h = let e : x ≡ seat = cc h in subst (λ (s : Seat). IsFirst s) e all.0
first_at (x ∷ xs) (suc v) seat all h = first_at xs v seat all.1 h

no_replies : {X : Type 0} (l : List X) (v : ℕ) → unwrap_or (slice_get (map {A = X} {B = List Reply} (λ x. []) l) v) [] ≡ []
no_replies [] v = refl
no_replies (x ∷ xs) zero = refl
no_replies (x ∷ xs) (suc v) = no_replies xs v

pub begins : (scripts : List (List Step)) (seats : List Seat) → length seats ≡ length scripts → AreFirst seats → BeginsGame scripts seats
begins scripts seats many all conf clock left = record {
  conf_is = refl;
  scripts_are = refl;
  stage = refl;
  shape = refl;
  many = many ∙ sym (length-map scripts (timed clock));
  replies = length-map {B = List Reply} (all_timed clock scripts) (λ (script : List Step). []);
  seated = λ v script seat is there.
      subst (λ (l : List Reply). IsSeat conf script l seat) (sym (no_replies (all_timed clock scripts) v)) (first_seat conf script seat (first_at seats v seat all there));
}

-- ---- whether a worker wants nothing more

-- without a further reply a call asks, or it is done
asks_or_leaves : (slots : ℕ) (asking : Asking) (k from : ℕ) → ((r : Request) × (next_from slots asking k from [] ≡ Asks r)) ⊎ (next_from slots asking k from [] ≡ Leaves [])
asks_or_leaves slots (Each asked) k from = go (drop k asked)
  where
    go : (l : List Request) → ((r : Request) × (asks_each l [] ≡ Asks r)) ⊎ (asks_each l [] ≡ Leaves [])
    go [] = inr refl
    go (r ∷ rs) = inl (r, refl)
asks_or_leaves slots (Steps ask) k from = go (nat_lt from slots)
  where
    go : (b : Bool) → ((r : Request) × (cond b (Asks (ask from)) (Leaves []) ≡ Asks r)) ⊎ (cond b (Asks (ask from)) (Leaves []) ≡ Leaves [])
    go true = inl (ask from, refl)
    go false = inr refl

goes_on : (t : ℕ) (later : List Reply → Option Wish) (n m : Next) → n ≡ m → (((r : Request) × (m ≡ Asks r)) ⊎ (m ≡ Leaves [])) → is_none (later []) ≡ false → is_none (continued t later n) ≡ false
goes_on t later n m is (inl r) more = ap (λ x. is_none (continued t later x)) (is ∙ r.1)
goes_on t later n m is (inr e) more = ap (λ x. is_none (continued t later x)) (is ∙ e) ∙ more

-- at first each one wants something, its end if nothing else
wants_first : (conf : Conf) (script : List Step) → is_none (wanted conf script []) ≡ false
wants_first conf [] = refl
wants_first conf (step ∷ steps) =
    goes_on step.t (wanted conf steps) (next_of conf step.call []) (next_from conf.slots (asking_of step.call) 0 0 []) (starts conf.slots (asking_of step.call) [])
    (asks_or_leaves conf.slots (asking_of step.call) 0 0) (wants_first conf steps)

some_at : {X : Type 0} (l : List X) (k : ℕ) → k < length l → (x : X) × (slice_get l k ≡ Some x)
some_at [] k h = absurd (omega (arith, h))
some_at (x ∷ xs) zero h = (x, refl)
some_at (x ∷ xs) (suc k) h = some_at xs k (omega (arith, h))

-- before its last call is left it does
wants_more : (conf : Conf) (script : List Step) (rs : List Reply) (seat : Seat) → IsSeat conf script rs seat → seat.step < length script → is_none (wanted conf script rs) ≡ false
wants_more conf script rs seat s low =
    let x = some_at script seat.step low in
    let step = x.0 in
    let w = s.call step x.1 in
    let next = ap (next_of conf step.call) (sym (append-nil seat.replies)) ∙ w.next [] in
    ap (λ (o : Option Wish). is_none o) (whole conf script rs seat s ∙ ap (λ (l : List Step). wanted conf l seat.replies) (drop_at script seat.step step x.1))
    ∙ goes_on step.t (wanted conf (drop (seat.step + 1) script)) (next_of conf step.call seat.replies) (next_from conf.slots (asking_of step.call) (length seat.replies) seat.from []) next
    (asks_or_leaves conf.slots (asking_of step.call) (length seat.replies) seat.from) (wants_first conf (drop (seat.step + 1) script))

wants_end : (conf : Conf) (script : List Step) (rs : List Reply) (seat : Seat) → IsSeat conf script rs seat → length script ≤ seat.step → seat.replies ≡ [] → is_none (wanted conf script rs) ≡ false
wants_end conf script rs seat s over none = ap (λ (o : Option Wish). is_none o) (ends_now conf script rs seat s over none)

wants_none : (conf : Conf) (script : List Step) (rs : List Reply) (seat : Seat) → IsSeat conf script rs seat → length script ≤ seat.step → seat.replies ≢ [] → is_none (wanted conf script rs) ≡ true
wants_none conf script rs seat s over some = ap (λ (o : Option Wish). is_none o) (has_ended conf script rs seat s over some)

timed_len : (clock : Clock) (script : List Step) → length (timed clock script) ≡ length script
timed_len clock script = length-map script (timed_step clock)

pub done_more : (script : List Step) (seat : Seat) → seat.step < length script → KnowsDone script seat false
done_more script seat low conf clock rs s = sym (wants_more conf (timed clock script) rs seat s (omega (arith, low, timed_len clock script)))

done_end : (script : List Step) (seat : Seat) → length script ≤ seat.step → seat.replies ≡ [] → KnowsDone script seat false
done_end script seat over none conf clock rs s = sym (wants_end conf (timed clock script) rs seat s (omega (arith, over, timed_len clock script)) none)

done_none : (script : List Step) (seat : Seat) → length script ≤ seat.step → seat.replies ≢ [] → KnowsDone script seat true
done_none script seat over some conf clock rs s = sym (wants_none conf (timed clock script) rs seat s (omega (arith, over, timed_len clock script)) some)

pub done_over : (script : List Step) (seat : Seat) → length script ≤ seat.step → (empty : Bool) → empty ≡ (length seat.replies == 0) → KnowsDone script seat (not empty)
done_over script seat over true e = done_end script seat over (empty_list seat.replies (sym e))
done_over script seat over false e = done_none script seat over (some_list seat.replies (sym e))

-- ---- whether any wants something

no_and : (b : Bool) → (b && false) ≡ false
no_and true = refl
no_and false = refl

all_done : (conf : Conf) (scripts : List (List Step)) (replies : List (List Reply)) → length replies ≡ length scripts
    → ((v : ℕ) (script : List Step) (rs : List Reply) → slice_get scripts v ≡ Some script → slice_get replies v ≡ Some rs → is_none (wanted conf script rs) ≡ true) → are_done conf scripts replies ≡ true
all_done conf [] replies many h = refl
all_done conf (s ∷ ss) [] many h = absurd (omega (arith, many))
all_done conf (s ∷ ss) (r ∷ rs) many h = ap (λ b. b && are_done conf ss rs) (h 0 s r refl refl) ∙ all_done conf ss rs (omega (arith, many)) (λ v x y p q. h (suc v) x y p q)

one_wants : (conf : Conf) (scripts : List (List Step)) (replies : List (List Reply)) (v : ℕ) (script : List Step) (rs : List Reply) → slice_get scripts v ≡ Some script → slice_get replies v ≡ Some rs
    → is_none (wanted conf script rs) ≡ false → are_done conf scripts replies ≡ false
one_wants conf [] replies v script y p q n = absurd (cc p)
one_wants conf (s ∷ ss) [] v script y p q n = refl
one_wants conf (s ∷ ss) (r ∷ rs) zero script y p q n =
    let e : s ≡ script = cc p in
    let f : r ≡ y = cc q in
    ap (λ b. b && are_done conf ss rs) (ap₂ (λ (x : List Step) (z : List Reply). is_none (wanted conf x z)) e f ∙ n)
one_wants conf (s ∷ ss) (r ∷ rs) (suc v) script y p q n = ap (λ b. is_none (wanted conf s r) && b) (one_wants conf ss rs v script y p q n) ∙ no_and (is_none (wanted conf s r))

here_in : (l : List (List Reply)) (v : ℕ) (rs : List Reply) → slice_get l v ≡ Some rs → unwrap_or (slice_get l v) [] ≡ rs
here_in l v rs h = ap (λ (o : Option (List Reply)). unwrap_or o []) h

abbrev pub EachDone : List (List Step) → List Seat → ℕ → Type 0
EachDone scripts seats n =
    (v : ℕ) (script : List Step) (seat : Seat) → v < n → slice_get scripts v ≡ Some script → slice_get seats v ≡ Some seat → KnowsDone script seat true

pub one_done : (scripts : List (List Step)) (seats : List Seat) (n : ℕ) (script : List Step) (seat : Seat) → EachDone scripts seats n → slice_get scripts n ≡ Some script → slice_get seats n ≡ Some seat
    → KnowsDone script seat true → EachDone scripts seats (n + 1)
one_done scripts seats n script seat each here there done v s x low p q = elim (cases_eq v n) [
  | inl e ↦
      let same : script ≡ s = let f : Some script ≡ Some s = sym here ∙ (ap (slice_get scripts) (sym e) ∙ p) in cc f in
      let own : seat ≡ x = let f : Some seat ≡ Some x = sym there ∙ (ap (slice_get seats) (sym e) ∙ q) in cc f in
      subst (λ (z : List Step). KnowsDone z x true) same (subst (λ (y : Seat). KnowsDone script y true) own done)
  | inr ne ↦ each v s x (omega (arith, low, ne)) p q
]

unscript_at : (clock : Clock) (scripts : List (List Step)) (v : ℕ) (script : List Step) → slice_get (all_timed clock scripts) v ≡ Some script
    → (s : List Step) × (slice_get scripts v ≡ Some s) × (script ≡ timed clock s)
unscript_at clock [] v script h = absurd (cc h)
unscript_at clock (x ∷ xs) zero script h = let e : timed clock x ≡ script = cc h in (x, refl, sym e)
unscript_at clock (x ∷ xs) (suc v) script h = unscript_at clock xs v script h

pub knows_end : (scripts : List (List Step)) (seats : List Seat) (n : ℕ) → n ≡ length scripts → EachDone scripts seats n → KnowsEnd scripts seats true
knows_end scripts seats n many each conf clock replay g at =
    sym (all_done conf (all_timed clock scripts) g.play.replies at.replies (λ v script rs p q.
    let u = unscript_at clock scripts v script p in
    let low : v < length scripts = slice_get_within scripts v u.0 u.1 in
    let x = some_at seats v (omega (arith, low, at.many, length-map scripts (timed clock))) in
    let s = subst (λ (l : List Reply). IsSeat conf script l x.0) (here_in g.play.replies v rs q) (at.seated v script x.0 p x.1) in
    ap (λ (z : List Step). is_none (wanted conf z rs)) u.2 ∙ sym (each v u.0 x.0 (omega (arith, low, many)) u.1 x.1 conf clock rs (subst (λ (z : List Step). IsSeat conf z rs x.0) u.2 s))))

pub knows_more : (scripts : List (List Step)) (seats : List Seat) (v : ℕ) (script : List Step) (seat : Seat) → slice_get scripts v ≡ Some script → slice_get seats v ≡ Some seat → KnowsDone script seat false
    → KnowsEnd scripts seats false
knows_more scripts seats v script seat p q d conf clock replay g at =
    let here = script_at clock scripts v script p in
    let low = slice_get_within (all_timed clock scripts) v (timed clock script) here in
    let r = some_at g.play.replies v (omega (arith, low, at.replies)) in
    let s = subst (λ (l : List Reply). IsSeat conf (timed clock script) l seat) (here_in g.play.replies v r.0 r.1) (at.seated v (timed clock script) seat here q) in
    sym (one_wants conf (all_timed clock scripts) g.play.replies v (timed clock script) r.0 here r.1 (sym (d conf clock r.0 s)))

-- ---- what all have printed

text_whole : (conf : Conf) (script : List Step) (rs : List Reply) (seat : Seat) → IsSeat conf script rs seat → is_none (wanted conf script rs) ≡ true → seat.text ≡ script_lines conf script rs
text_whole conf script rs seat s none = elim (cases_lt seat.step (length script)) [
  | inl low ↦ absurd (no_both (is_none (wanted conf script rs)) none (wants_more conf script rs seat s low))
  | inr over ↦
      sym (ap (script_lines conf script) (sym (append-nil rs))
      ∙ (s.text [] ∙ (ap (λ (l : List Step). seat.text ++ script_lines conf l (seat.replies ++ [])) (drop_of_length-le script over) ∙ append-nil seat.text)))
]
  where
    no_both : (b : Bool) → b ≡ true → b ≡ false → ⊥
    no_both true p q = absurd (cc q)
    no_both false p q = absurd (cc p)

and_first : (a b : Bool) → (a && b) ≡ true → a ≡ true
and_first true b h = refl
and_first false b h = h

and_second : (a b : Bool) → (a && b) ≡ true → b ≡ true
and_second true b h = h
and_second false b h = absurd (cc h)

texts_whole : (conf : Conf) (scripts : List (List Step)) (seats : List Seat) (replies : List (List Reply)) → length seats ≡ length scripts → length replies ≡ length scripts
    → ((v : ℕ) (script : List Step) (seat : Seat) (rs : List Reply) → slice_get scripts v ≡ Some script → slice_get seats v ≡ Some seat → slice_get replies v ≡ Some rs → IsSeat conf script rs seat)
    → are_done conf scripts replies ≡ true → map (λ (seat : Seat). seat.text) seats ≡ texts_of conf scripts replies
texts_whole conf [] [] replies many full h done = refl
texts_whole conf [] (x ∷ xs) replies many full h done = absurd (omega (arith, many))
texts_whole conf (s ∷ ss) [] replies many full h done = absurd (omega (arith, many))
texts_whole conf (s ∷ ss) (x ∷ xs) [] many full h done = absurd (omega (arith, full))
texts_whole conf (s ∷ ss) (x ∷ xs) (r ∷ rs) many full h done =
    ap₂ (λ (t : List ℕ) (ts : List (List ℕ)). t ∷ ts) (text_whole conf s r x (h 0 s x r refl refl refl) (and_first (is_none (wanted conf s r)) (are_done conf ss rs) done))
    (texts_whole conf ss xs rs (omega (arith, many)) (omega (arith, full)) (λ v a b c p q t. h (suc v) a b c p q t) (and_second (is_none (wanted conf s r)) (are_done conf ss rs) done))

-- one more text is taken out
pub one_told : (texts more : List (List ℕ)) (text : List ℕ) (seat : Seat) (left rest : List Seat) (all : List (List ℕ)) → more ≡ texts ++ text ∷ [] → text ≡ seat.text → left ≡ seat ∷ rest
    → texts ++ map (λ (s : Seat). s.text) left ≡ all → more ++ map (λ (s : Seat). s.text) rest ≡ all
one_told texts more text seat left rest all pushed is taken was =
    ap (λ (l : List (List ℕ)). l ++ map (λ (s : Seat). s.text) rest) (pushed ∙ ap (λ (t : List ℕ). texts ++ t ∷ []) is)
    ∙ (append_assoc texts (seat.text ∷ []) (map (λ (s : Seat). s.text) rest) ∙ (ap (λ (l : List Seat). texts ++ map (λ (s : Seat). s.text) l) (sym taken) ∙ was))

pub tells : (seats : List Seat) (texts : List (List ℕ)) → texts ≡ map (λ (seat : Seat). seat.text) seats → TellsAll seats texts
tells seats texts are conf scripts replay g at done =
    are ∙ texts_whole conf scripts seats g.play.replies at.many at.replies (λ v script seat rs p q t. subst (λ (l : List Reply). IsSeat conf script l seat) (here_in g.play.replies v rs t) (at.seated v script seat p q)) done
