-- How a call goes on after its replies.
use Rattle.std.proofs.Common.{◌≡◌, ◌≢◌, ℕ, zero, suc, ◌+◌, ◌-◌, ◌<◌, ◌≤◌, Bool, true, false, cond, List, [], ◌∷◌, ◌++◌, length, take, drop, map, Some, None, refl, ap, sym, ◌∙◌, arith, length-append, append_assoc}
use Rattle.std.specs.Prelude.{slice_get, nat_lt, ◌==◌}
use Rattle.std.proofs.lemmas.Bool.{eqb-true}
use Rattle.std.proofs.lemmas.List.{append-nil}
use Rattle.std.proofs.Math.ListN.{drop_of_length-le}
use Rattle.apcu_model.specs.declared.conf.Conf.{Conf}
use Rattle.apcu_model.specs.declared.request.Request.{Request}
use Rattle.apcu_model.specs.declared.request.Request.TheVariants as requests
use Rattle.apcu_model.specs.declared.request.Reply.{Reply}
use Rattle.script_read.specs.declared.call.Call.{Call}
use Rattle.script_read.specs.declared.script.Step.{Step}
use Rattle.script_read.specs.Grammar.{ends_line}
use Rattle.script_read.specs.Play.{Asking, Each, Steps, Next, Asks, Leaves, asking_of, asks_each, asks_steps, asks_so, next_of, slot_after, wanted, continued, wish_at}
use Rattle.script_read.specs.Patterns.{call_pattern}
use Rattle.reply_text.specs.Lines.{call_text, before, call_lines, script_lines}
use Rattle.run_verify.specs.declared.seat.Seat.{Seat}
use Rattle.run_verify.specs.Seats.{is_asking, next_from, IsAmidCall, IsSeat, IsNextCall, HasReplyMore, IsSearching, IsAsking}

pub asks_at : {X : Type 0} (ask : X → Request) (l : List X) (k : ℕ) (x : X) → slice_get l k ≡ Some x → Asks (ask x) ≡ asks_each (drop k (map ask l)) []
asks_at ask [] k x h = absurd (cc h)
asks_at ask (y ∷ ys) zero x h = let e : y ≡ x = cc h in ap (λ z. Asks (ask z)) (sym e)
asks_at ask (y ∷ ys) (suc k) x h = asks_at ask ys k x h

-- what is left of a list begins with the item there
pub drop_at : {X : Type 0} (l : List X) (k : ℕ) (x : X) → slice_get l k ≡ Some x → drop k l ≡ x ∷ drop (k + 1) l
drop_at [] k x h = absurd (cc h)
drop_at (y ∷ ys) zero x h = let e : y ≡ x = cc h in ap (λ z. z ∷ ys) e
drop_at (y ∷ ys) (suc k) x h = let e : suc k + 1 ≡ suc (k + 1) = omega arith in drop_at ys k x h ∙ ap (λ n. x ∷ drop n (y ∷ ys)) (sym e)

drop_next : {X : Type 0} (l : List X) (k : ℕ) (x : X) (xs : List X) → drop k l ≡ x ∷ xs → drop (k + 1) l ≡ xs
drop_next [] zero x xs h = absurd (cc h)
drop_next [] (suc k) x xs h = absurd (cc h)
drop_next (y ∷ ys) zero x xs h = cc h
drop_next (y ∷ ys) (suc k) x xs h = let e : suc k + 1 ≡ suc (k + 1) = omega arith in ap (λ n. drop n (y ∷ ys)) e ∙ drop_next ys k x xs h

-- a call that is done leaves all replies that follow
pub leaves_all : (slots : ℕ) (asking : Asking) (k from : ℕ) → next_from slots asking k from [] ≡ Leaves [] → (more : List Reply) → next_from slots asking k from more ≡ Leaves more
leaves_all slots (Each asked) k from h more = go (drop k asked) h
  where
    go : (l : List Request) → asks_each l [] ≡ Leaves [] → asks_each l more ≡ Leaves more
    go [] q = refl
    go (r ∷ rs) q = absurd (cc q)
leaves_all slots (Steps ask) k from h [] = h
leaves_all slots (Steps ask) k from h (y ∷ more) = go (nat_lt from slots) h
  where
    go : (b : Bool) → cond b (Asks (ask from)) (Leaves []) ≡ Leaves [] → cond b (asks_steps slots ask (slot_after slots from y) more) (Leaves (y ∷ more)) ≡ Leaves (y ∷ more)
    go true q = absurd (cc q)
    go false q = refl

-- one that asks goes on after the answer
pub asks_more : (slots : ℕ) (asking : Asking) (k from : ℕ) (r : Request) → next_from slots asking k from [] ≡ Asks r → (y : Reply) (more : List Reply)
    → next_from slots asking k from (y ∷ more) ≡ next_from slots asking (k + 1) (slot_after slots from y) more
asks_more slots (Each asked) k from r h y more = go (drop k asked) refl h
  where
    go : (l : List Request) → drop k asked ≡ l → asks_each l [] ≡ Asks r → asks_each l (y ∷ more) ≡ asks_each (drop (k + 1) asked) more
    go [] is q = absurd (cc q)
    go (x ∷ xs) is q = ap (λ l. asks_each l more) (sym (drop_next asked k x xs is))
asks_more slots (Steps ask) k from r h y more = go (nat_lt from slots) h
  where
    go : (b : Bool) → cond b (Asks (ask from)) (Leaves []) ≡ Asks r → cond b (asks_steps slots ask (slot_after slots from y) more) (Leaves (y ∷ more)) ≡ asks_steps slots ask (slot_after slots from y) more
    go true q = refl
    go false q = absurd (cc q)

-- a call as it begins
pub starts : (slots : ℕ) (asking : Asking) (more : List Reply) → asks_so slots asking more ≡ next_from slots asking 0 0 more
starts slots (Each asked) more = refl
starts slots (Steps ask) more = refl

pub begins_within : (conf : Conf) (call : Call) (seat : Seat) → seat.replies ≡ [] → seat.from ≡ 0 → IsAmidCall conf call seat
begins_within conf call seat none first = record {
  next = λ more.
      ap (λ (l : List Reply). next_of conf call (l ++ more)) none
      ∙ (starts conf.slots (asking_of call) more
      ∙ (ap (λ n. next_from conf.slots (asking_of call) (length {A = Reply} []) n more) (sym first)
      ∙ ap (λ (l : List Reply). next_from conf.slots (asking_of call) (length l) seat.from more) (sym none)));
  pattern = λ some. absurd (some none);
}

before_these : (cur more : List Reply) → before more (cur ++ more) ≡ cur
before_these cur more = let e : length (cur ++ more) - length more ≡ length cur = omega (arith, length-append cur more) in ap (λ n. take n (cur ++ more)) e ∙ take_front cur more
  where
    take_front : (a b : List Reply) → take (length a) (a ++ b) ≡ a
    take_front [] b = take_zero b
      where
        take_zero : (l : List Reply) → take 0 l ≡ []
        take_zero [] = refl
        take_zero (x ∷ xs) = refl
    take_front (x ∷ a) b = ap (λ l. x ∷ l) (take_front a b)

-- the seat at the next call
pub next_call : (conf : Conf) (script : List Step) (rs : List Reply) (old new : Seat) (step : Step) → slice_get script old.step ≡ Some step → old.step < length script
    → next_from conf.slots (asking_of step.call) (length old.replies) old.from [] ≡ Leaves []
    → IsNextCall (call_text step.call old.replies ++ ends_line) old new → IsSeat conf script rs old → IsSeat conf script rs new
next_call conf script rs old new step here less done n s = record {
  within = omega (arith, n.step, less);
  wants = λ more.
      s.wants more
      ∙ (ap (λ (l : List Step). wanted conf l (old.replies ++ more)) left
      ∙ (ap (continued step.t (wanted conf (drop (old.step + 1) script))) (leaves more)
      ∙ (ap (λ k. wanted conf (drop k script) more) (sym n.step)
      ∙ ap (λ (l : List Reply). wanted conf (drop new.step script) (l ++ more)) (sym n.replies))));
  text = λ more.
      s.text more
      ∙ (ap (λ (l : List Step). old.text ++ script_lines conf l (old.replies ++ more)) left
      ∙ (ap (λ x. old.text ++ call_lines step.call (old.replies ++ more) (script_lines conf (drop (old.step + 1) script)) x) (leaves more)
      ∙ (ap (λ (l : List Reply). old.text ++ (call_text step.call l ++ ends_line ++ script_lines conf (drop (old.step + 1) script) more)) (before_these old.replies more)
      ∙ (sym (append_assoc old.text (call_text step.call old.replies ++ ends_line) (script_lines conf (drop (old.step + 1) script) more))
      ∙ (ap (λ l. l ++ script_lines conf (drop (old.step + 1) script) more) (sym n.text_is)
      ∙ (ap (λ k. new.text ++ script_lines conf (drop k script) more) (sym n.step)
      ∙ ap (λ (l : List Reply). new.text ++ script_lines conf (drop new.step script) (l ++ more)) (sym n.replies)))))));
  call = λ next there. begins_within conf next.call new n.replies n.from;
}
  where
    left : drop old.step script ≡ step ∷ drop (old.step + 1) script
    left = drop_at script old.step step here

    leaves : (more : List Reply) → next_of conf step.call (old.replies ++ more) ≡ Leaves more
    leaves more = (s.call step here).next more ∙ leaves_all conf.slots (asking_of step.call) (length old.replies) old.from done more

-- the seat after a reply
pub answered : (conf : Conf) (script : List Step) (rs : List Reply) (old new : Seat) (y : Reply)
    → ((step : Step) → slice_get script old.step ≡ Some step → (r : Request) × (next_from conf.slots (asking_of step.call) (length old.replies) old.from [] ≡ Asks r))
    → ((step : Step) → slice_get script old.step ≡ Some step → old.search ≡ call_pattern step.call)
    → HasReplyMore conf y old new → IsSeat conf script rs old → IsSeat conf script (rs ++ y ∷ []) new
answered conf script rs old new y asks searched a s = record {
  within = omega (arith, a.step, s.within);
  wants = λ more.
      ap (wanted conf script) (append_assoc rs (y ∷ []) more)
      ∙ (s.wants (y ∷ more)
      ∙ (ap (λ k. wanted conf (drop k script) (old.replies ++ y ∷ more)) (sym a.step)
      ∙ ap (wanted conf (drop new.step script)) (joined more)));
  text = λ more.
      ap (script_lines conf script) (append_assoc rs (y ∷ []) more)
      ∙ (s.text (y ∷ more)
      ∙ (ap (λ k. old.text ++ script_lines conf (drop k script) (old.replies ++ y ∷ more)) (sym a.step)
      ∙ (ap (λ l. l ++ script_lines conf (drop new.step script) (old.replies ++ y ∷ more)) (sym a.text_is)
      ∙ ap (λ l. new.text ++ script_lines conf (drop new.step script) l) (joined more))));
  call = λ step there.
      let here : slice_get script old.step ≡ Some step = ap (slice_get script) (sym a.step) ∙ there in
      let w = s.call step here in
      let r = asks step here in
      let longer : length old.replies + 1 ≡ length new.replies = omega (arith, ap length a.replies, length-append old.replies (y ∷ [])) in
      record {
        next = λ more.
            ap (next_of conf step.call) (sym (joined more))
            ∙ (w.next (y ∷ more)
            ∙ (asks_more conf.slots (asking_of step.call) (length old.replies) old.from r.0 r.1 y more
            ∙ (ap (λ k. next_from conf.slots (asking_of step.call) k (slot_after conf.slots old.from y) more) longer
            ∙ ap (λ n. next_from conf.slots (asking_of step.call) (length new.replies) n more) (sym a.from))));
        pattern = λ some. a.search ∙ searched step here;
      };
}
  where
    joined : (more : List Reply) → old.replies ++ y ∷ more ≡ new.replies ++ more
    joined more = sym (append_assoc old.replies (y ∷ []) more) ∙ ap (λ l. l ++ more) (sym a.replies)

-- ---- what a worker wants

pub whole : (conf : Conf) (script : List Step) (rs : List Reply) (seat : Seat) → IsSeat conf script rs seat → wanted conf script rs ≡ wanted conf (drop seat.step script) seat.replies
whole conf script rs seat s = ap (wanted conf script) (sym (append-nil rs)) ∙ (s.wants [] ∙ ap (wanted conf (drop seat.step script)) (append-nil seat.replies))

-- after the last call its end
pub ends_now : (conf : Conf) (script : List Step) (rs : List Reply) (seat : Seat) → IsSeat conf script rs seat → length script ≤ seat.step → seat.replies ≡ []
    → wanted conf script rs ≡ Some (record { request = requests.Retire; t = 0 })
ends_now conf script rs seat s over none =
    whole conf script rs seat s
    ∙ (ap (λ (l : List Step). wanted conf l seat.replies) (drop_of_length-le script over) ∙ ap (wanted conf []) none)

-- and then nothing
pub has_ended : (conf : Conf) (script : List Step) (rs : List Reply) (seat : Seat) → IsSeat conf script rs seat → length script ≤ seat.step → seat.replies ≢ []
    → wanted conf script rs ≡ None
has_ended conf script rs seat s over some =
    whole conf script rs seat s
    ∙ (ap (λ (l : List Step). wanted conf l seat.replies) (drop_of_length-le script over) ∙ go seat.replies some)
  where
    go : (l : List Reply) → l ≢ [] → wanted conf [] l ≡ None
    go [] q = absurd (q refl)
    go (y ∷ ys) q = refl

-- the call that it is at asks
pub wants_now : (conf : Conf) (script : List Step) (rs : List Reply) (seat : Seat) (step : Step) (r : Request) → IsSeat conf script rs seat → slice_get script seat.step ≡ Some step
    → next_from conf.slots (asking_of step.call) (length seat.replies) seat.from [] ≡ Asks r → wanted conf script rs ≡ Some (wish_at step.t r)
wants_now conf script rs seat step r s here asks =
    let w = s.call step here in
    let next : next_of conf step.call seat.replies ≡ Asks r = ap (next_of conf step.call) (sym (append-nil seat.replies)) ∙ (w.next [] ∙ asks) in
    whole conf script rs seat s
    ∙ (ap (λ (l : List Step). wanted conf l seat.replies) (drop_at script seat.step step here)
    ∙ ap (continued step.t (wanted conf (drop (seat.step + 1) script))) next)

pub no_call : (script : List Step) (k : ℕ) (step : Step) → length script ≤ k → slice_get script k ≡ Some step → ⊥
no_call [] k step over h = cc h
no_call (x ∷ xs) zero step over h = omega (arith, over)
no_call (x ∷ xs) (suc k) step over h = no_call xs k step (omega (arith, over)) h

-- ---- what the code found

pub asks_some : (n : Next) → is_asking n ≡ true → (r : Request) × (n ≡ Asks r)
asks_some (Asks r) asks = (r, refl)
asks_some (Leaves others) asks = absurd (cc asks)

pub asks_none : (slots : ℕ) (asking : Asking) (k from : ℕ) → is_asking (next_from slots asking k from []) ≡ false → next_from slots asking k from [] ≡ Leaves []
asks_none slots (Each asked) k from none = go (drop k asked) none
  where
    go : (l : List Request) → is_asking (asks_each l []) ≡ false → asks_each l [] ≡ Leaves []
    go [] q = refl
    go (r ∷ rs) q = absurd (cc q)
asks_none slots (Steps ask) k from none = go (nat_lt from slots) none
  where
    go : (b : Bool) → is_asking (cond b (Asks (ask from)) (Leaves [])) ≡ false → cond b (Asks (ask from)) (Leaves []) ≡ Leaves []
    go true q = absurd (cc q)
    go false q = refl

pub empty_list : (l : List Reply) → (length l == 0) ≡ true → l ≡ []
empty_list [] e = refl
empty_list (y ∷ ys) e = absurd (omega (arith, eqb-true (length (y ∷ ys)) 0 e))

pub some_list : (l : List Reply) → (length l == 0) ≡ false → l ≢ []
some_list l e none = absurd (cc (e, ap (λ (x : List Reply). length x == 0) none))

pub same_step : (script : List Step) (k : ℕ) (a b : Step) → slice_get script k ≡ Some a → slice_get script k ≡ Some b → a ≡ b
same_step script k a b p q = let e : Some a ≡ Some b = sym p ∙ q in cc e

-- ---- from a seat that asks to the one with the answer

searched_seat : (conf : Conf) (script : List Step) (rs : List Reply) (old new : Seat) → IsSearching script old new → IsSeat conf script rs old → IsSeat conf script rs new
searched_seat conf script rs old new h s = record {
  within = omega (arith, h.step, s.within);
  wants = λ more.
      s.wants more
      ∙ (ap (λ k. wanted conf (drop k script) (old.replies ++ more)) (sym h.step)
      ∙ ap (λ (l : List Reply). wanted conf (drop new.step script) (l ++ more)) (sym h.replies));
  text = λ more.
      s.text more
      ∙ (ap (λ k. old.text ++ script_lines conf (drop k script) (old.replies ++ more)) (sym h.step)
      ∙ (ap (λ l. l ++ script_lines conf (drop new.step script) (old.replies ++ more)) (sym h.text_is)
      ∙ ap (λ (l : List Reply). new.text ++ script_lines conf (drop new.step script) (l ++ more)) (sym h.replies)));
  call = λ step there.
      let w = s.call step (ap (slice_get script) (sym h.step) ∙ there) in
      record {
        next = λ more.
            ap (λ (l : List Reply). next_of conf step.call (l ++ more)) h.replies
            ∙ (w.next more
            ∙ (ap (λ (l : List Reply). next_from conf.slots (asking_of step.call) (length l) old.from more) (sym h.replies)
            ∙ ap (λ n. next_from conf.slots (asking_of step.call) (length new.replies) n more) (sym h.from)));
        pattern = λ some. h.search step there;
      };
}

pub asked_on : (conf : Conf) (script : List Step) (rs : List Reply) (first old new : Seat) (y : Reply) → IsSeat conf script rs first → IsAsking conf script first → IsSearching script first old
    → HasReplyMore conf y old new → IsSeat conf script (rs ++ y ∷ []) new
asked_on conf script rs first old new y s asking h a =
    answered conf script rs old new y (λ step here.
    let r = asking.asks step (ap (slice_get script) (sym h.step) ∙ here) in (
      r.0,
      ap (λ (l : List Reply). next_from conf.slots (asking_of step.call) (length l) old.from []) h.replies
          ∙ (ap (λ n. next_from conf.slots (asking_of step.call) (length first.replies) n []) h.from ∙ r.1),
    ))
    h.search a (searched_seat conf script rs first old h s)
