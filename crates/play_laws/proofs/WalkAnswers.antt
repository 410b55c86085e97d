-- A worker's walk in a history: its steps, and what it is answered.
use Rattle.std.proofs.Common.{◌≡◌, ℕ, ◌≤◌, ◌==◌, Bool, true, false, cond, List, [], ◌∷◌, ◌++◌, Option, refl, sym, ap, ◌∙◌, subst}
use Rattle.std.specs.List.{flat_map, list_all}
use Rattle.apcu_model.specs.declared.conf.Conf.{Conf}
use Rattle.apcu_model.specs.declared.request.Event.{Event}
use Rattle.apcu_model.specs.declared.items.Chunk.{Chunk}
use Rattle.apcu_model.specs.declared.request.Request.TheVariants as requests
use Rattle.apcu_model.specs.declared.request.Reply.TheVariants as replies
use Rattle.apcu_model.specs.declared.searching.Pattern.{Pattern}
use Rattle.apcu_model.specs.declared.searching.List.TheVariants.{Active}
use Rattle.apcu_model.specs.declared.searching.Fields.{Fields}
use Rattle.apcu_model.specs.Chunks.{chunk_of}
use Rattle.apcu_model.specs.History.{Stage, stage_of, held_places, reply_in, after_event}
use Rattle.apcu_model.specs.Laws.{EventsKeep}
use Rattle.apcu_model.specs.Rows.{are_apart}
use Rattle.apcu_model.specs.Sequential.{reply_to}
use Rattle.play_laws.specs.Exchanges.{Exchange, IsWalk, answered_chunks, answered_keys, answers_in, chunks_in, next_in, own_exchanges, requests_in, steps_in, exchange_at, exchanges_of, walk_requests}
use Rattle.play_laws.specs.Walks.{AreSteps, walk_chunks, chunk_keys, times_given, is_whole_walk, has_item}
use Rattle.play_laws.proofs.WalkLemmas as walking

-- ---- the steps

steps_from : EventsKeep → (conf : Conf) (w : ℕ) (m : Stage) (es : List Event) → m.cache.conf ≡ conf → are_apart m.cache.rows ≡ true → AreSteps conf (steps_in (own_exchanges w m es))
steps_from law conf w m [] shape apart = tt
steps_from law conf w m (e ∷ es) shape apart =
    go (e.worker == w) (steps_from law conf w (after_event m e) es (law.conf held e.t e.request m.cache ∙ shape) (law.apart held e.t e.request m.cache apart))
  where
    held : List ℕ
    held = held_places m e.mask

    go : (b : Bool) → AreSteps conf (steps_in (own_exchanges w (after_event m e) es))
        → AreSteps conf (steps_in (cond b (exchange_at m e ∷ own_exchanges w (after_event m e) es) (own_exchanges w (after_event m e) es)))
    go true later = (shape, apart, later)
    go false later = later

pub steps_are : EventsKeep → (conf : Conf) (before events : List Event) (w : ℕ) → AreSteps conf (steps_in (exchanges_of conf before events w))
steps_are law conf before events w = steps_from law conf w (stage_of conf before) events (law.conf_in conf before) (law.apart_in conf before)

-- ---- the answers

abbrev pub asks : Option Pattern → ℕ → Fields → ℕ → List Exchange → Type 0
asks wanted size fields from own = requests_in own ≡ walk_requests wanted size fields from (answers_in own)

-- the answer to a step
pub answer_is : (wanted : Option Pattern) (size : ℕ) (fields : Fields) (from : ℕ) (m : Stage) (e : Event) → e.request ≡ requests.Chunk wanted from size Active fields
    → reply_in m e ≡ replies.Chunk (chunk_of wanted from size Active fields e.t m.cache)
answer_is wanted size fields from m e asked = ap (λ r. reply_to (held_places m e.mask) e.t r m.cache) asked

given_from : (wanted : Option Pattern) (size : ℕ) (fields : Fields) (from w : ℕ) (m : Stage) (es : List Event) → asks wanted size fields from (own_exchanges w m es)
    → answered_chunks (own_exchanges w m es) ≡ walk_chunks wanted size fields from (steps_in (own_exchanges w m es))
given_from wanted size fields from w m [] asked = refl
given_from wanted size fields from w m (e ∷ es) asked = go (e.worker == w) asked (λ at. given_from wanted size fields at w (after_event m e) es)
  where
    rest : List Exchange
    rest = own_exchanges w (after_event m e) es

    go : (b : Bool) → asks wanted size fields from (cond b (exchange_at m e ∷ rest) rest)
        → ((at : ℕ) → asks wanted size fields at rest → answered_chunks rest ≡ walk_chunks wanted size fields at (steps_in rest))
        → answered_chunks (cond b (exchange_at m e ∷ rest) rest) ≡ walk_chunks wanted size fields from (steps_in (cond b (exchange_at m e ∷ rest) rest))
    go false ask later = later from ask
    go true ask later =
        let first : e.request ≡ requests.Chunk wanted from size Active fields = cc in
        let chunk = chunk_of wanted from size Active fields e.t m.cache in
        let answer = answer_is wanted size fields from m e first in
        let on : requests_in rest ≡ walk_requests wanted size fields (next_in (reply_in m e)) (answers_in rest) = cc in
        let next : next_in (reply_in m e) ≡ chunk.next = ap next_in answer in
        let others = later chunk.next (subst (λ at. asks wanted size fields at rest) next on) in
        ap (λ r. chunks_in r ++ answered_chunks rest) answer ∙ ap (λ (l : List Chunk). chunk ∷ l) others

pub given : (wanted : Option Pattern) (size : ℕ) (fields : Fields) (conf : Conf) (before events : List Event) (w : ℕ) → IsWalk wanted size fields (exchanges_of conf before events w)
    → answered_chunks (exchanges_of conf before events w) ≡ walk_chunks wanted size fields 0 (steps_in (exchanges_of conf before events w))
given wanted size fields conf before events w asked = given_from wanted size fields 0 w (stage_of conf before) events asked

pub once : EventsKeep → (wanted : Option Pattern) (size : ℕ) (fields : Fields) (conf : Conf) (before events : List Event) (w : ℕ) (key : List ℕ)
    → IsWalk wanted size fields (exchanges_of conf before events w) → times_given key (answered_keys (exchanges_of conf before events w)) ≤ 1
once law wanted size fields conf before events w key asked =
    subst (λ (chunks : List Chunk). times_given key (flat_map chunk_keys chunks) ≤ 1) (sym (given wanted size fields conf before events w asked))
    (walking.once wanted size fields conf (steps_in (exchanges_of conf before events w)) key (steps_are law conf before events w))

pub all : EventsKeep → (wanted : Option Pattern) (size : ℕ) (fields : Fields) (conf : Conf) (before events : List Event) (w : ℕ) (key : List ℕ) → 1 ≤ conf.slots
    → IsWalk wanted size fields (exchanges_of conf before events w) → is_whole_walk conf.slots (answered_chunks (exchanges_of conf before events w)) ≡ true
    → list_all (has_item wanted key) (steps_in (exchanges_of conf before events w)) ≡ true → times_given key (answered_keys (exchanges_of conf before events w)) ≡ 1
all law wanted size fields conf before events w key some asked whole there =
    let is = given wanted size fields conf before events w asked in
    ap (λ (chunks : List Chunk). times_given key (flat_map chunk_keys chunks)) is
    ∙ walking.all wanted size fields conf (steps_in (exchanges_of conf before events w)) key some (steps_are law conf before events w)
    (subst (λ (chunks : List Chunk). is_whole_walk conf.slots chunks ≡ true) is whole) there
