-- Wishes in turn, and the turns of calls and scripts.
use Rattle.std.proofs.Common.{◌≡◌, ℕ, zero, suc, ◌+◌, ◌-◌, ◌<◌, ◌≤◌, ◌⊎◌, inl, inr, List, [], ◌∷◌, ◌++◌, length, take, drop, slice_get, Option, Some, refl, sym, ap, ◌∙◌, length-append, take-append-drop, length-take-le, arith}
use Rattle.std.proofs.lemmas.Bool.{cases_lt}
use Rattle.std.proofs.lemmas.List.{length-drop, take-append-le}
use Rattle.std.proofs.lemmas.Option.{slice_get_cases, slice_get_within}
use Rattle.apcu_model.specs.declared.conf.Conf.{Conf}
use Rattle.apcu_model.specs.declared.request.Request.{Request}
use Rattle.apcu_model.specs.declared.request.Reply.{Reply}
use Rattle.script_read.specs.declared.call.Call.{Call}
use Rattle.script_read.specs.declared.script.Step.{Step}
use Rattle.script_read.specs.Budgets.{events_in}
use Rattle.script_read.specs.Calls.{event_bound}
use Rattle.script_read.specs.Grammar.{ends_line}
use Rattle.script_read.specs.DoneCalls.{leaves_more}
use Rattle.script_read.specs.Play.{Wish, wish_at, Next, Asks, Leaves, next_of, continued, wanted}
use Rattle.script_read.proofs.EventBounds.{asks_few}
use Rattle.play_laws.specs.Own.{AreInTurn}
use Rattle.play_laws.specs.Parts.{get_joined, take_joined}
use Rattle.reply_text.specs.Lines.{call_text, before, call_lines, script_lines}
use Rattle.worker_play.specs.Turns.{Turn, Takes, Over, turn_at, turns_at, then_turns, turns_of, wish_of_turn, wanted_in}

-- ---- wishes in turn

pub in_turn_none : (wants : List Reply → Option Wish) → AreInTurn wants [] []
in_turn_none wants = record { count = refl; each = λ k w at. absurd (cc (at)) }

pub in_turn_one : (wants : List Reply → Option Wish) (w : Wish) (y : Reply) → wants [] ≡ Some w → AreInTurn wants (w ∷ []) (y ∷ [])
in_turn_one wants w y first = record { count = refl; each = go }
  where
    go : (k : ℕ) (v : Wish) → slice_get (w ∷ []) k ≡ Some v → wants (take k (y ∷ [])) ≡ Some v
    go zero v at = first ∙ at
    go (suc k) v at = absurd (cc (at))

-- some in turn, and then those after them
pub in_turn_more : (wants rest : List Reply → Option Wish) (ws vs : List Wish) (rs ss : List Reply) → AreInTurn wants ws rs → AreInTurn rest vs ss
    → ((later : List Reply) → wants (rs ++ later) ≡ rest later) → AreInTurn wants (ws ++ vs) (rs ++ ss)
in_turn_more wants rest ws vs rs ss a b goes = record {
  count = omega (arith, a.count, b.count, length-append ws vs, length-append rs ss);
  each = λ k w at. elim (get_joined ws vs k w at) [
    | inl here ↦ ap wants (take-append-le k rs ss (omega (arith, slice_get_within ws k w here, a.count))) ∙ a.each k w here
    | inr (j, is, there) ↦
        let place : k ≡ length rs + j = omega (arith, is, a.count) in
        ap wants (ap (λ (n : ℕ). take n (rs ++ ss)) place ∙ take_joined rs ss j) ∙ (goes (take j ss) ∙ b.each j w there)
  ];
}

-- where as much is wanted
pub in_turn_as : (wants more : List Reply → Option Wish) (ws : List Wish) (rs : List Reply) → ((replies : List Reply) (w : Wish) → wants replies ≡ Some w → more replies ≡ Some w) → AreInTurn wants ws rs → AreInTurn more ws rs
in_turn_as wants more ws rs same a = record { count = a.count; each = λ k w at. same (take k rs) w (a.each k w at) }

-- ---- one call

wish_asked : (turn : Turn) (w : Wish) → wish_of_turn turn ≡ Some w → turn ≡ Takes w
wish_asked (Takes v) w e = let same : v ≡ w = cc (e) in ap Takes same
wish_asked (Over others) w e = absurd (cc (e))

next_asks : (t : ℕ) (next : Next) (w : Wish) → turn_at t next ≡ Takes w → (request : Request) × (next ≡ Asks request)
next_asks t (Asks request) w e = (request, refl)
next_asks t (Leaves others) w e = absurd (cc (e))

next_leaves : (t : ℕ) (next : Next) (others : List Reply) → turn_at t next ≡ Over others → next ≡ Leaves others
next_leaves t (Asks request) others e = absurd (cc (e))
next_leaves t (Leaves own) others e = let same : own ≡ others = cc (e) in ap Leaves same

-- a call that has ended leaves what comes after
pub over_goes_on : (conf : Conf) (t : ℕ) (call : Call) (own : List Reply) → turns_at t (next_of conf call) own ≡ Over [] → (later : List Reply) → next_of conf call (own ++ later) ≡ Leaves later
over_goes_on conf t call own over later = leaves_more conf call own [] later (next_leaves t (next_of conf call own) [] over)

-- ---- how often is asked

asks_or_leaves : (next : Next) → ((request : Request) × (next ≡ Asks request)) ⊎ ((others : List Reply) × (next ≡ Leaves others))
asks_or_leaves (Asks request) = inl (request, refl)
asks_or_leaves (Leaves others) = inr (others, refl)

-- a call takes no more replies than its events may be
takes_few : (conf : Conf) (call : Call) (replies others : List Reply) → next_of conf call replies ≡ Leaves others → length replies ≤ event_bound conf.slots call + length others
takes_few conf call replies others done = elim (cases_lt (event_bound conf.slots call) (length replies)) [
  | inr few ↦ omega (arith, few)
  | inl many ↦
      let bound = event_bound conf.slots call in
      let parts : take bound replies ++ drop bound replies ≡ replies = take-append-drop bound replies in
      let count : length (take bound replies) ≡ bound = length-take-le bound replies (omega (arith, many)) in
      elim (asks_or_leaves (next_of conf call (take bound replies))) [
        | inl (request, asks) ↦ absurd (omega (arith, count, asks_few conf call (take bound replies) request asks))
        | inr (own, left) ↦
            let all : Leaves others ≡ Leaves (own ++ drop bound replies) =
            sym done ∙ (ap (next_of conf call) (sym parts) ∙ leaves_more conf call (take bound replies) own (drop bound replies) left) in
            let same : others ≡ own ++ drop bound replies = cc (all) in
            omega (arith, many, ap length same, length-append own (drop bound replies), length-drop bound replies)
      ]
]

-- a call that makes requests only after a few replies makes not many more
asked_few : (turns : List Reply → Turn) (ws : List Wish) (rs : List Reply) (n : ℕ) → AreInTurn (wanted_in turns) ws rs → ((replies : List Reply) (w : Wish) → turns replies ≡ Takes w → length replies < n) → length ws ≤ n
asked_few turns ws rs n a few = elim (slice_get_cases ws (length ws - 1)).1 [
  | inl there ↦
      let count : length (take (length ws - 1) rs) ≡ length ws - 1 = length-take-le (length ws - 1) rs (omega (arith, a.count)) in
      let asked = wish_asked (turns (take (length ws - 1) rs)) there.0 (a.each (length ws - 1) there.0 there.2) in
      omega (arith, count, few (take (length ws - 1) rs) there.0 asked)
  | inr past ↦ omega (arith, past.0)
]

pub call_few : (conf : Conf) (t : ℕ) (call : Call) (ws : List Wish) (rs : List Reply) → AreInTurn (wanted_in (turns_at t (next_of conf call))) ws rs → length ws ≤ event_bound conf.slots call
call_few conf t call ws rs a =
    asked_few (turns_at t (next_of conf call)) ws rs (event_bound conf.slots call) a
    (λ replies w e. let asks = next_asks t (next_of conf call replies) w e in asks_few conf call replies asks.0 asks.1)

-- ---- the calls of a script

-- the events of a script, those of its first call apart
pub events_step : (slots : ℕ) (step : Step) (steps : List Step) → events_in slots (step ∷ steps) ≡ event_bound slots step.call + events_in slots steps
events_step slots step steps = refl

steps_few : (conf : Conf) (script : List Step) (replies : List Reply) (w : Wish) → turns_of conf script replies ≡ Takes w → length replies < events_in conf.slots script
steps_few conf [] replies w e = absurd (cc (e))
steps_few conf (step ∷ steps) replies w e = elim (asks_or_leaves (next_of conf step.call replies)) [
  | inl (request, asks) ↦ omega (arith, asks_few conf step.call replies request asks, events_step conf.slots step steps)
  | inr (others, leaves) ↦
      let later : turns_of conf steps others ≡ Takes w = sym (ap (λ (n : Next). then_turns (turns_of conf steps) (turn_at step.t n)) leaves) ∙ e in
      omega (arith, takes_few conf step.call replies others leaves, steps_few conf steps others w later, events_step conf.slots step steps)
]

pub script_few : (conf : Conf) (script : List Step) (ws : List Wish) (rs : List Reply) → AreInTurn (wanted_in (turns_of conf script)) ws rs → length ws ≤ events_in conf.slots script
script_few conf script ws rs a = asked_few (turns_of conf script) ws rs (events_in conf.slots script) a (steps_few conf script)

-- what the first call wants its script wants
first_wants : (later : List Reply → Turn) (turn : Turn) (w : Wish) → wish_of_turn turn ≡ Some w → wish_of_turn (then_turns later turn) ≡ Some w
first_wants later (Takes v) w e = e
first_wants later (Over others) w e = absurd (cc (e))

pub in_turn_first : (conf : Conf) (step : Step) (steps : List Step) (ws : List Wish) (rs : List Reply) → AreInTurn (wanted_in (turns_at step.t (next_of conf step.call))) ws rs → AreInTurn (wanted_in (turns_of conf (step ∷ steps))) ws rs
in_turn_first conf step steps ws rs a =
    in_turn_as (wanted_in (turns_at step.t (next_of conf step.call))) (wanted_in (turns_of conf (step ∷ steps))) ws rs
    (λ replies w e. first_wants (turns_of conf steps) (turns_at step.t (next_of conf step.call) replies) w e) a

-- and once that has ended what the later ones want
pub turns_step : (conf : Conf) (step : Step) (steps : List Step) (own : List Reply) → turns_at step.t (next_of conf step.call) own ≡ Over [] → (later : List Reply) → turns_of conf (step ∷ steps) (own ++ later) ≡ turns_of conf steps later
turns_step conf step steps own over later = ap (λ (n : Next). then_turns (turns_of conf steps) (turn_at step.t n)) (over_goes_on conf step.t step.call own over later)

-- what its calls want a worker wants
call_wants : (t : ℕ) (turns : List Reply → Turn) (later : List Reply → Option Wish) (next : Next) (w : Wish) → ((others : List Reply) → wish_of_turn (turns others) ≡ Some w → later others ≡ Some w) → wish_of_turn (then_turns turns (turn_at t next)) ≡ Some w → continued t later next ≡ Some w
call_wants t turns later (Asks request) w rest e = e
call_wants t turns later (Leaves others) w rest e = rest others e

calls_wanted : (conf : Conf) (script : List Step) (replies : List Reply) (w : Wish) → wanted_in (turns_of conf script) replies ≡ Some w → wanted conf script replies ≡ Some w
calls_wanted conf [] replies w e = absurd (cc (e))
calls_wanted conf (step ∷ steps) replies w e =
    call_wants step.t (turns_of conf steps) (wanted conf steps) (next_of conf step.call replies) w (λ others later. calls_wanted conf steps others w later) e

pub in_turn_wanted : (conf : Conf) (script : List Step) (ws : List Wish) (rs : List Reply) → AreInTurn (wanted_in (turns_of conf script)) ws rs → AreInTurn (wanted conf script) ws rs
in_turn_wanted conf script ws rs a = in_turn_as (wanted_in (turns_of conf script)) (wanted conf script) ws rs (calls_wanted conf script) a

-- ---- a script that has ended

-- its first call was done
record FirstOver (conf : Conf) (step : Step) (steps : List Step) (replies others : List Reply) : Type 0 where
  own : List Reply
  leaves : next_of conf step.call replies ≡ Leaves own
  rest : turns_of conf steps own ≡ Over others

first_over : (conf : Conf) (step : Step) (steps : List Step) (replies others : List Reply) → turns_of conf (step ∷ steps) replies ≡ Over others → FirstOver conf step steps replies others
first_over conf step steps replies others over = elim (asks_or_leaves (next_of conf step.call replies)) [
  | inl (request, asks) ↦
      let clash : Takes (wish_at step.t request) ≡ Over others = sym (ap (λ (n : Next). then_turns (turns_of conf steps) (turn_at step.t n)) asks) ∙ over in
      absurd (cc (clash))
  | inr (own, leaves) ↦ record { own = own; leaves = leaves; rest = sym (ap (λ (n : Next). then_turns (turns_of conf steps) (turn_at step.t n)) leaves) ∙ over }
]

-- nothing but the end is wanted
pub ends_wanted : (conf : Conf) (script : List Step) (replies others later : List Reply) → turns_of conf script replies ≡ Over others → wanted conf script (replies ++ later) ≡ wanted conf [] (others ++ later)
ends_wanted conf [] replies others later over = let same : replies ≡ others = cc (over) in ap (λ (l : List Reply). wanted conf [] (l ++ later)) same
ends_wanted conf (step ∷ steps) replies others later over =
    let first = first_over conf step steps replies others over in
    ap (continued step.t (wanted conf steps)) (leaves_more conf step.call replies first.own later first.leaves)
    ∙ ends_wanted conf steps first.own others later first.rest

before_more : (others replies later : List Reply) → before (others ++ later) (replies ++ later) ≡ before others replies
before_more others replies later =
    let n : length (replies ++ later) - length (others ++ later) ≡ length replies - length others = omega (arith, length-append replies later, length-append others later) in
    ap (λ k. take k (replies ++ later)) n ∙ take-append-le (length replies - length others) replies later (omega arith)

-- and more replies change nothing of its lines
pub lines_more : (conf : Conf) (script : List Step) (replies others later : List Reply) → turns_of conf script replies ≡ Over others → script_lines conf script (replies ++ later) ≡ script_lines conf script replies
lines_more conf [] replies others later over = refl
lines_more conf (step ∷ steps) replies others later over =
    let first = first_over conf step steps replies others over in
    ap (call_lines step.call (replies ++ later) (script_lines conf steps)) (leaves_more conf step.call replies first.own later first.leaves)
    ∙ (ap (λ (l : List Reply). call_text step.call l ++ ends_line ++ script_lines conf steps (first.own ++ later)) (before_more first.own replies later)
    ∙ (ap (λ (l : List ℕ). call_text step.call (before first.own replies) ++ ends_line ++ l) (lines_more conf steps first.own others later first.rest)
    ∙ sym (ap (call_lines step.call replies (script_lines conf steps)) first.leaves)))
