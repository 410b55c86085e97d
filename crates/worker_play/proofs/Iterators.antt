-- Iterators, step by step.
use Rattle.std.proofs.Common.{◌≡◌, ℕ, ◌<◌, ◌≤◌, Bool, true, false, List, [], ◌∷◌, ◌++◌, Option, ap, sym, subst, ◌∙◌, arith}
use Rattle.std.proofs.lemmas.Bool.Decides.{nat_tests}
use Rattle.std.specs.Prelude.{nat_lt, if◌then◌else◌, Result, Ok, Err, IfOk, OnErr}
use Rattle.apcu_model.specs.declared.conf.Conf.{Conf}
use Rattle.apcu_model.specs.declared.request.Request.{Request}
use Rattle.apcu_model.specs.declared.searching.Pattern.{Pattern}
use Rattle.apcu_model.specs.declared.request.Reply.{Reply}
use Rattle.pin_table.specs.Values.{PassView}
use Rattle.script_read.specs.declared.call.Call.{Call}
use Rattle.script_read.specs.Patterns.{call_pattern}
use Rattle.script_read.specs.Play.{wish_at, Asks, Leaves, Asking, Steps, asking_of, asks_steps, asks_so, slot_after, next_of}
use Rattle.reply_text.specs.Lines.{call_text}
use Rattle.worker_play.specs.Goes.{wish, GoesOn, Reaches, Tells}
use Rattle.worker_play.specs.Turns.{Turn, Takes, Over, turn_at, turns_at, steps_at}
use Rattle.worker_play.proofs.PassProgress.{Midway, goes_on, one_asked, more_asked}
use Rattle.worker_play.proofs.CallForms.{call_asks, call_tells}

is_below : (a b : ℕ) → a < b → nat_lt a b ≡ true
is_below a b below = grind (arith, nat_tests, below)

is_past : (a b : ℕ) → b ≤ a → nat_lt a b ≡ false
is_past a b past = grind (arith, nat_tests, past)

-- the step that is asked next
step_taken : (t slots : ℕ) (ask : ℕ → Request) (from : ℕ) → from < slots → steps_at t slots ask from [] ≡ Takes (wish_at t (ask from))
step_taken t slots ask from below = ap (λ (b : Bool). turn_at t (if b then Asks (ask from) else Leaves [])) (is_below from slots below)

-- and those after it
steps_after : (t slots : ℕ) (ask : ℕ → Request) (from to : ℕ) (reply : Reply) (later : List Reply) → from < slots → to ≡ slot_after slots from reply → steps_at t slots ask from (reply ∷ later) ≡ steps_at t slots ask to later
steps_after t slots ask from to reply later below is =
    ap (λ (b : Bool). turn_at t (if b then asks_steps slots ask (slot_after slots from reply) later else Leaves (reply ∷ later))) (is_below from slots below)
    ∙ ap (λ (n : ℕ). steps_at t slots ask n later) (sym is)

-- no step is left
pub steps_over : (t slots : ℕ) (ask : ℕ → Request) (from : ℕ) → slots ≤ from → steps_at t slots ask from [] ≡ Over []
steps_over t slots ask from past = ap (λ (b : Bool). turn_at t (if b then Asks (ask from) else Leaves [])) (is_past from slots past)

-- one step more
pub iterator_goes_on : {A : Type 0} (conf : Conf) (workers : ℕ) (p o q : PassView) (turns : List Reply → Turn) (t slots : ℕ) (ask : ℕ → Request) (from to : ℕ) (reply : Reply) (told to_tell still : List Reply → A)
    → Midway conf workers p o turns (steps_at t slots ask from) told to_tell → GoesOn conf workers o q (wish_at t (ask from) ∷ []) (reply ∷ []) → from < slots → to ≡ slot_after slots from reply
    → ((later : List Reply) → to_tell (reply ∷ later) ≡ still later) → Midway conf workers p q turns (steps_at t slots ask to) told still
iterator_goes_on conf workers p o q turns t slots ask from to reply told to_tell still m g below is next =
    goes_on conf workers p o q turns (steps_at t slots ask from) (steps_at t slots ask to) told to_tell still m
    (one_asked conf workers o q (steps_at t slots ask from) (wish_at t (ask from)) reply g (step_taken t slots ask from below))
    (λ later. steps_after t slots ask from to reply later below is) next

-- a request in other words
pub asked_so : (conf : Conf) (workers : ℕ) (o q : PassView) (t : ℕ) (r s : Request) (y : Reply) → r ≡ s → GoesOn conf workers o q (wish t r ∷ []) (y ∷ []) → GoesOn conf workers o q (wish t s ∷ []) (y ∷ [])
asked_so conf workers o q t r s y same g = subst (λ (x : Request). GoesOn conf workers o q (wish t x ∷ []) (y ∷ [])) same g

-- memory was missing in a step, or after it
pub iterator_breaks : {A X E : Type 0} (conf : Conf) (workers : ℕ) (p o q : PassView) (turns : List Reply → Turn) (t slots : ℕ) (ask : ℕ → Request) (from : ℕ) (answer : X → Reply) (told to_tell : List Reply → A) (made : Result X E)
    → Midway conf workers p o turns (steps_at t slots ask from) told to_tell → from < slots → IfOk made (λ x. GoesOn conf workers o q (wish_at t (ask from) ∷ []) (answer x ∷ [])) → OnErr made (q ≡ o) → Reaches conf workers p q turns
iterator_breaks conf workers p o q turns t slots ask from answer told to_tell (Ok x) m below g same =
    more_asked conf workers p o q turns (steps_at t slots ask from) m.0 m.1 (one_asked conf workers o q (steps_at t slots ask from) (wish_at t (ask from)) (answer x) g (step_taken t slots ask from below))
iterator_breaks conf workers p o q turns t slots ask from answer told to_tell (Err e) m below g same = subst (λ (b : PassView). Reaches conf workers p b turns) (sym same) m.0

-- ---- calls that are iterators

-- the call by its search
pub by_search : (call : Call) (wanted sought : Option Pattern) (form : Option Pattern → Call) → call ≡ form wanted → call_pattern (form wanted) ≡ wanted → sought ≡ call_pattern call → call ≡ form sought
by_search call wanted sought form is has same = is ∙ ap form (sym (same ∙ (ap call_pattern is ∙ has)))

-- what its steps reach the call does
pub steps_reached : (conf : Conf) (workers : ℕ) (p q : PassView) (t slots : ℕ) (call form : Call) (ask : ℕ → Request) → call ≡ form → slots ≡ conf.slots → asking_of form ≡ Steps ask → Reaches conf workers p q (steps_at t slots ask 0)
    → Reaches conf workers p q (turns_at t (next_of conf call))
steps_reached conf workers p q t slots call form ask is same asks r =
    call_asks conf workers p q t call form is
    (subst (λ (a : Asking). Reaches conf workers p q (turns_at t (asks_so conf.slots a))) (sym asks) (subst (λ (n : ℕ). Reaches conf workers p q (steps_at t n ask 0)) same r))

pub steps_told : (conf : Conf) (workers : ℕ) (p q : PassView) (t slots : ℕ) (call form : Call) (ask : ℕ → Request) (out new : List ℕ) → call ≡ form → slots ≡ conf.slots → asking_of form ≡ Steps ask
    → Tells conf workers p q (steps_at t slots ask 0) (λ replies. out ++ call_text form replies) new → Tells conf workers p q (turns_at t (next_of conf call)) (λ replies. out ++ call_text call replies) new
steps_told conf workers p q t slots call form ask out new is same asks told =
    call_tells conf workers p q t call form out new is
    (subst (λ (a : Asking). Tells conf workers p q (turns_at t (asks_so conf.slots a)) (λ replies. out ++ call_text form replies) new) (sym asks)
    (subst (λ (n : ℕ). Tells conf workers p q (steps_at t n ask 0) (λ replies. out ++ call_text form replies) new) same told))
