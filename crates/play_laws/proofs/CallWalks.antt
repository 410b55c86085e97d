-- The steps that a call asks in turn are a walk.
use Rattle.std.proofs.Common.{◌≡◌, inl, inr, ℕ, suc, ◌<◌, ◌≤◌, ◌==◌, Bool, true, false, cond, if◌then◌else◌, List, [], ◌∷◌, ◌++◌, length, map, take, slice_get, Option, Some, None, refl, sym, ap, ◌∙◌, subst, arith}
use Rattle.std.specs.Prelude.{nat_lt}
use Rattle.std.proofs.lemmas.Bool.{cases_eq, eq-eqb, ne_eqb}
use Rattle.std.proofs.lemmas.Bool.Decides.{nat_tests}
use Rattle.std.proofs.lemmas.Option.{slice_get-map}
use Rattle.std.specs.Option.{option_map}
use Rattle.apcu_model.specs.declared.conf.Conf.{Conf}
use Rattle.apcu_model.specs.declared.request.Event.{Event}
use Rattle.apcu_model.specs.declared.items.Chunk.{Chunk}
use Rattle.apcu_model.specs.declared.request.Request.{Request}
use Rattle.apcu_model.specs.declared.request.Request.TheVariants as requests
use Rattle.apcu_model.specs.declared.request.Reply.{Reply}
use Rattle.apcu_model.specs.declared.request.Reply.TheVariants as replies
use Rattle.apcu_model.specs.declared.searching.Pattern.{Pattern}
use Rattle.apcu_model.specs.declared.searching.List.TheVariants.{Active}
use Rattle.apcu_model.specs.declared.searching.Fields.{Fields}
use Rattle.apcu_model.specs.Chunks.{chunk_of}
use Rattle.apcu_model.specs.History.{Stage, stage_of, held_places, reply_in, after_event}
use Rattle.apcu_model.specs.Laws.{EventsKeep}
use Rattle.pin_table.specs.Events.{events_of}
use Rattle.script_read.specs.declared.call.Call.TheVariants.{Walk}
use Rattle.script_read.specs.Play.{Wish, wish_at, Next, Asks, Leaves, asks_steps, slot_after, continued}
use Rattle.play_laws.specs.Own.{own_replies_from, wish_in}
use Rattle.play_laws.specs.Calls.{wanted_by, replies_in, IsAskedIn}
use Rattle.play_laws.specs.Exchanges.{Exchange, IsWalk, answered_chunks, answers_in, chunks_in, next_in, own_exchanges, requests_in, exchange_at, exchanges_of}
use Rattle.play_laws.specs.Walks.{is_whole_walk}
use Rattle.play_laws.proofs.WalkAnswers.{asks, answer_is}
use Rattle.play_laws.proofs.WalkSteps.{ends}

-- ---- a worker's exchanges, wishes and replies

answers_are : (w : ℕ) (m : Stage) (es : List Event) → answers_in (own_exchanges w m es) ≡ own_replies_from w m es
answers_are w m [] = refl
answers_are w m (e ∷ es) = go (e.worker == w) (answers_are w (after_event m e) es)
  where
    go : (b : Bool) → answers_in (own_exchanges w (after_event m e) es) ≡ own_replies_from w (after_event m e) es
        → answers_in (cond b (exchange_at m e ∷ own_exchanges w (after_event m e) es) (own_exchanges w (after_event m e) es))
        ≡ cond b (reply_in m e ∷ own_replies_from w (after_event m e) es) (own_replies_from w (after_event m e) es)
    go true later = ap (λ (l : List Reply). reply_in m e ∷ l) later
    go false later = later

abbrev requests_of : List Wish → List Request
requests_of wishes = map {A = Wish} (λ wish. wish.request) wishes

requests_are : (w : ℕ) (m : Stage) (es : List Event) → requests_in (own_exchanges w m es) ≡ requests_of (map wish_in (events_of w es))
requests_are w m [] = refl
requests_are w m (e ∷ es) = go (e.worker == w) (requests_are w (after_event m e) es)
  where
    go : (b : Bool) → requests_in (own_exchanges w (after_event m e) es) ≡ requests_of (map wish_in (events_of w es))
        → requests_in (cond b (exchange_at m e ∷ own_exchanges w (after_event m e) es) (own_exchanges w (after_event m e) es))
        ≡ requests_of (map wish_in (cond b (e ∷ events_of w es) (events_of w es)))
    go true later = ap (λ (l : List Request). e.request ∷ l) later
    go false later = later

-- ---- what a call wants

asks_that : (t : ℕ) (n : Next) (wish : Wish) → continued t (λ others. None) n ≡ Some wish → n ≡ Asks wish.request
asks_that t (Asks request) wish e =
    let same : wish_at t request ≡ wish = cc in
    ap (λ (v : Wish). Asks v.request) same
asks_that t (Leaves others) wish e = absurd cc

-- it asks nothing more
abbrev IsOver : Next → Type 0
IsOver (Asks request) = ⊥
IsOver (Leaves others) = Unit {0}

over_if : (t : ℕ) (n : Next) → continued t (λ others. None) n ≡ None → IsOver n
over_if t (Asks request) e = absurd cc
over_if t (Leaves others) e = tt

-- ---- step by step

abbrev ask_at : Option Pattern → ℕ → Fields → ℕ → Request
ask_at wanted size fields from = requests.Chunk wanted from size Active fields

-- each request is what the steps from a slot on ask after the replies before it
abbrev InTurn : ℕ → (ℕ → Request) → ℕ → List Exchange → Type 0
InTurn slots ask from own =
    (k : ℕ) (request : Request) → slice_get (requests_in own) k ≡ Some request → asks_steps slots ask from (take k (answers_in own)) ≡ Asks request

first_asked : (slots : ℕ) (ask : ℕ → Request) (from : ℕ) (request : Request) → asks_steps slots ask from [] ≡ Asks request → (nat_lt from slots ≡ true) × (ask from ≡ request)
first_asked slots ask from request e = go (nat_lt from slots) e
  where
    go : (b : Bool) → (if b then Asks (ask from) else Leaves []) ≡ Asks request → (b ≡ true) × (ask from ≡ request)
    go true is = (refl, cc)
    go false is = absurd cc

-- the steps after the first
later_step : (slots : ℕ) (ask : ℕ → Request) (from : ℕ) (reply : Reply) (more : List Reply) (n : Next) → nat_lt from slots ≡ true → asks_steps slots ask from (reply ∷ more) ≡ n
    → asks_steps slots ask (slot_after slots from reply) more ≡ n
later_step slots ask from reply more n within e = go (nat_lt from slots) within e
  where
    go : (b : Bool) → b ≡ true → (if b then asks_steps slots ask (slot_after slots from reply) more else Leaves (reply ∷ more)) ≡ n
        → asks_steps slots ask (slot_after slots from reply) more ≡ n
    go true is h = h
    go false is h = absurd cc

turn_on : (slots : ℕ) (ask : ℕ → Request) (from : ℕ) (x : Exchange) (rest : List Exchange) → nat_lt from slots ≡ true → InTurn slots ask from (x ∷ rest)
    → InTurn slots ask (slot_after slots from x.reply) rest
turn_on slots ask from x rest within turn =
    λ k request there. later_step slots ask from x.reply (take k (answers_in rest)) (Asks request) within (turn (suc k) request there)

-- where the next step is asked, it goes on from where this one ended
goes_on : (slots from : ℕ) (chunk : Chunk) → nat_lt (slot_after slots from (replies.Chunk chunk)) slots ≡ true → slot_after slots from (replies.Chunk chunk) ≡ chunk.next
goes_on slots from chunk within = go (nat_lt from chunk.next) within
  where
    go : (b : Bool) → nat_lt (if b then chunk.next else slots) slots ≡ true → (if b then chunk.next else slots) ≡ chunk.next
    go true lt = refl
    go false lt = absurd (grind (arith, nat_tests, lt))

goes_further : (slots from : ℕ) (chunk : Chunk) → from < chunk.next → slot_after slots from (replies.Chunk chunk) ≡ chunk.next
goes_further slots from chunk further =
    let is : nat_lt from chunk.next ≡ true = grind (arith, nat_tests, further) in
    ap (λ (b : Bool). if b then chunk.next else slots) is

-- ---- they are a walk

rest_asks : (wanted : Option Pattern) (size : ℕ) (fields : Fields) (slots at next : ℕ) (rest : List Exchange) → InTurn slots (ask_at wanted size fields) at rest
    → asks wanted size fields at rest → (nat_lt at slots ≡ true → at ≡ next) → asks wanted size fields next rest
rest_asks wanted size fields slots at next [] turn asked same = refl
rest_asks wanted size fields slots at next (y ∷ ys) turn asked same =
    let first = first_asked slots (ask_at wanted size fields) at y.request (turn 0 y.request refl) in
    subst (λ k. asks wanted size fields k (y ∷ ys)) (same first.0) asked

step_asks : (wanted : Option Pattern) (size : ℕ) (fields : Fields) (slots from : ℕ) (m : Stage) (e : Event) (rest : List Exchange)
    → InTurn slots (ask_at wanted size fields) from (exchange_at m e ∷ rest)
    → ((at : ℕ) → InTurn slots (ask_at wanted size fields) at rest → asks wanted size fields at rest)
    → asks wanted size fields from (exchange_at m e ∷ rest)
step_asks wanted size fields slots from m e rest turn later =
    let ask = ask_at wanted size fields in
    let first = first_asked slots ask from e.request (turn 0 e.request refl) in
    let chunk = chunk_of wanted from size Active fields e.t m.cache in
    let answer = answer_is wanted size fields from m e (sym first.1) in
    let on = turn_on slots ask from (exchange_at m e) rest first.0 turn in
    let same : nat_lt (slot_after slots from (reply_in m e)) slots ≡ true → slot_after slots from (reply_in m e) ≡ next_in (reply_in m e) =
    subst (λ (r : Reply). nat_lt (slot_after slots from r) slots ≡ true → slot_after slots from r ≡ next_in r) (sym answer) (goes_on slots from chunk) in
    let others = rest_asks wanted size fields slots (slot_after slots from (reply_in m e)) (next_in (reply_in m e)) rest on (later (slot_after slots from (reply_in m e)) on) same in
    ap (λ (r : Request). r ∷ requests_in rest) (sym first.1) ∙ ap (λ (l : List Request). ask from ∷ l) others

walk_from : (wanted : Option Pattern) (size : ℕ) (fields : Fields) (slots from w : ℕ) (m : Stage) (es : List Event)
    → InTurn slots (ask_at wanted size fields) from (own_exchanges w m es) → asks wanted size fields from (own_exchanges w m es)
walk_from wanted size fields slots from w m [] turn = refl
walk_from wanted size fields slots from w m (e ∷ es) turn = go (e.worker == w) turn (λ at. walk_from wanted size fields slots at w (after_event m e) es)
  where
    rest : List Exchange
    rest = own_exchanges w (after_event m e) es

    go : (b : Bool) → InTurn slots (ask_at wanted size fields) from (cond b (exchange_at m e ∷ rest) rest)
        → ((at : ℕ) → InTurn slots (ask_at wanted size fields) at rest → asks wanted size fields at rest)
        → asks wanted size fields from (cond b (exchange_at m e ∷ rest) rest)
    go true ask later = step_asks wanted size fields slots from m e rest ask later
    go false ask later = later from ask

-- ---- and whole, where nothing more is asked

-- at the end nothing is asked
none_past : (slots : ℕ) (ask : ℕ → Request) (at : ℕ) (rest : List Exchange) → at ≡ slots → InTurn slots ask at rest → rest ≡ []
none_past slots ask at [] past turn = refl
none_past slots ask at (y ∷ ys) past turn =
    let first = first_asked slots ask at y.request (turn 0 y.request refl) in
    absurd (grind (arith, nat_tests, first.0, past))

not_over : (slots : ℕ) (ask : ℕ → Request) (from : ℕ) → from < slots → IsOver (asks_steps slots ask from []) → ⊥
not_over slots ask from low over =
    let is : nat_lt from slots ≡ true = grind (arith, nat_tests, low) in
    go (nat_lt from slots) is over
  where
    go : (b : Bool) → b ≡ true → IsOver (if b then Asks (ask from) else Leaves []) → ⊥
    go true is h = h
    go false is h = absurd cc

whole_at : (slots : ℕ) (chunk : Chunk) (chunks : List Chunk) → (chunk.next ≡ slots → chunks ≡ []) → ((chunk.next ≡ slots → ⊥) → is_whole_walk slots chunks ≡ true)
    → is_whole_walk slots (chunk ∷ chunks) ≡ true
whole_at slots chunk chunks last more = elim (cases_eq chunk.next slots) [
  | inl same ↦
      ap (λ (b : Bool). if b then length chunks == 0 else is_whole_walk slots chunks) (eq-eqb chunk.next slots same)
      ∙ ap (λ (l : List Chunk). length l == 0) (last same)
  | inr other ↦ ap (λ (b : Bool). if b then length chunks == 0 else is_whole_walk slots chunks) (ne_eqb chunk.next slots other) ∙ more other
]

step_whole : (wanted : Option Pattern) (size : ℕ) (fields : Fields) (slots from : ℕ) (m : Stage) (e : Event) (rest : List Exchange) → m.cache.conf.slots ≡ slots → 1 ≤ size
    → InTurn slots (ask_at wanted size fields) from (exchange_at m e ∷ rest) → IsOver (asks_steps slots (ask_at wanted size fields) from (answers_in (exchange_at m e ∷ rest)))
    → ((at : ℕ) → at < slots → InTurn slots (ask_at wanted size fields) at rest → IsOver (asks_steps slots (ask_at wanted size fields) at (answers_in rest))
    → is_whole_walk slots (answered_chunks rest) ≡ true)
    → from < slots → is_whole_walk slots (answered_chunks (exchange_at m e ∷ rest)) ≡ true
step_whole wanted size fields slots from m e rest shape some turn over later low =
    let ask = ask_at wanted size fields in
    let first = first_asked slots ask from e.request (turn 0 e.request refl) in
    let chunk = chunk_of wanted from size Active fields e.t m.cache in
    let answer = answer_is wanted size fields from m e (sym first.1) in
    let bounds = ends wanted e.t m.cache from size in
    let inside : from < m.cache.conf.slots = omega (arith, low, shape) in
    let further : from < chunk.next = bounds.further some inside in
    let within : chunk.next ≤ m.cache.conf.slots = bounds.within in
    let at : slot_after slots from (reply_in m e) ≡ chunk.next = ap (slot_after slots from) answer ∙ goes_further slots from chunk further in
    let on = subst (λ k. InTurn slots ask k rest) at (turn_on slots ask from (exchange_at m e) rest first.0 turn) in
    let next = later_step slots ask from (reply_in m e) (answers_in rest) (asks_steps slots ask from (answers_in (exchange_at m e ∷ rest))) first.0 refl in
    let done = subst (λ k. IsOver (asks_steps slots ask k (answers_in rest))) at (subst IsOver (sym next) over) in
    let none : chunk.next ≡ slots → answered_chunks rest ≡ [] = λ past. ap answered_chunks (none_past slots ask chunk.next rest past on) in
    let more : (chunk.next ≡ slots → ⊥) → is_whole_walk slots (answered_chunks rest) ≡ true = λ other. later chunk.next (omega (arith, within, shape, other)) on done in
    ap (λ r. is_whole_walk slots (chunks_in r ++ answered_chunks rest)) answer ∙ whole_at slots chunk (answered_chunks rest) none more

whole_from : EventsKeep → (wanted : Option Pattern) (size : ℕ) (fields : Fields) (conf : Conf) (from w : ℕ) (m : Stage) (es : List Event) → m.cache.conf ≡ conf → 1 ≤ size
    → from < conf.slots → InTurn conf.slots (ask_at wanted size fields) from (own_exchanges w m es)
    → IsOver (asks_steps conf.slots (ask_at wanted size fields) from (answers_in (own_exchanges w m es)))
    → is_whole_walk conf.slots (answered_chunks (own_exchanges w m es)) ≡ true
whole_from law wanted size fields conf from w m [] shape some low turn over = absurd (not_over conf.slots (ask_at wanted size fields) from low over)
whole_from law wanted size fields conf from w m (e ∷ es) shape some low turn over =
    go (e.worker == w) turn over
    (λ at. whole_from law wanted size fields conf at w (after_event m e) es (law.conf (held_places m e.mask) e.t e.request m.cache ∙ shape) some)
  where
    rest : List Exchange
    rest = own_exchanges w (after_event m e) es

    ask : ℕ → Request
    ask = ask_at wanted size fields

    go : (b : Bool) → InTurn conf.slots ask from (cond b (exchange_at m e ∷ rest) rest)
        → IsOver (asks_steps conf.slots ask from (answers_in (cond b (exchange_at m e ∷ rest) rest)))
        → ((at : ℕ) → at < conf.slots → InTurn conf.slots ask at rest → IsOver (asks_steps conf.slots ask at (answers_in rest)) → is_whole_walk conf.slots (answered_chunks rest) ≡ true)
        → is_whole_walk conf.slots (answered_chunks (cond b (exchange_at m e ∷ rest) rest)) ≡ true
    go true turns ended later = step_whole wanted size fields conf.slots from m e rest (ap (λ (f : Conf). f.slots) shape) some turns ended later low
    go false turns ended later = later from low turns ended

-- ---- a worker's call

-- the wish at a place of which the request is known
wish_there : (wishes : List Wish) (k : ℕ) (request : Request) → slice_get (requests_of wishes) k ≡ Some request
    → (wish : Wish) × (slice_get wishes k ≡ Some wish) × (wish.request ≡ request)
wish_there wishes k request is = go (slice_get wishes k) (sym (slice_get-map (λ (v : Wish). v.request) wishes k) ∙ is)
  where
    go : (o : Option Wish) → option_map (λ (v : Wish). v.request) o ≡ Some request → (wish : Wish) × (o ≡ Some wish) × (wish.request ≡ request)
    go None e = absurd cc
    go (Some wish) e = (wish, refl, cc)

in_turn : (conf : Conf) (t : ℕ) (wanted : Option Pattern) (fields : Fields) (size : ℕ) (before events : List Event) (w : ℕ)
    → IsAskedIn conf t (Walk wanted fields size Active) before events w → InTurn conf.slots (ask_at wanted size fields) 0 (exchanges_of conf before events w)
in_turn conf t wanted fields size before events w asked = λ k request is.
    let m = stage_of conf before in
    let ask = ask_at wanted size fields in
    let own = exchanges_of conf before events w in
    let wish = wish_there (map wish_in (events_of w events)) k request (subst (λ (l : List Request). slice_get l k ≡ Some request) (requests_are w m events) is) in
    let wants = asks_that t (asks_steps conf.slots ask 0 (take k (own_replies_from w m events))) wish.0 (asked.each k wish.0 wish.1) in
    ap (λ (l : List Reply). asks_steps conf.slots ask 0 (take k l)) (answers_are w m events) ∙ (wants ∙ ap Asks wish.2)

pub walk : (conf : Conf) (t : ℕ) (wanted : Option Pattern) (fields : Fields) (size : ℕ) (before events : List Event) (w : ℕ)
    → IsAskedIn conf t (Walk wanted fields size Active) before events w → IsWalk wanted size fields (exchanges_of conf before events w)
walk conf t wanted fields size before events w asked =
    walk_from wanted size fields conf.slots 0 w (stage_of conf before) events (in_turn conf t wanted fields size before events w asked)

pub whole : EventsKeep → (conf : Conf) (t : ℕ) (wanted : Option Pattern) (fields : Fields) (size : ℕ) (before events : List Event) (w : ℕ) → 1 ≤ size → 1 ≤ conf.slots
    → IsAskedIn conf t (Walk wanted fields size Active) before events w → wanted_by conf t (Walk wanted fields size Active) (replies_in conf before events w) ≡ None
    → is_whole_walk conf.slots (answered_chunks (exchanges_of conf before events w)) ≡ true
whole law conf t wanted fields size before events w some slots asked done =
    let m = stage_of conf before in
    let ask = ask_at wanted size fields in
    let ended = over_if t (asks_steps conf.slots ask 0 (own_replies_from w m events)) done in
    let over = subst (λ (l : List Reply). IsOver (asks_steps conf.slots ask 0 l)) (sym (answers_are w m events)) ended in
    whole_from law wanted size fields conf 0 w m events (law.conf_in conf before) some slots (in_turn conf t wanted fields size before events w asked) over
