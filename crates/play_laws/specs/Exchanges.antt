-- The requests and replies of one worker of many in some events of a history, and whether they are
-- a walk.
use Rattle.std.specs.Prelude.{◌≡◌, ℕ, ◌==◌, cond, List, [], ◌∷◌, map, Option}
use Rattle.std.specs.List.{flat_map}
use Rattle.apcu_model.specs.declared.conf.Conf.{Conf}
use Rattle.apcu_model.specs.declared.request.Event.{Event}
use Rattle.apcu_model.specs.declared.items.Chunk.{Chunk}
use Rattle.apcu_model.specs.declared.request.Request.{Request}
use Rattle.apcu_model.specs.declared.request.Request.TheVariants as requests
use Rattle.apcu_model.specs.declared.request.Reply.{Reply}
use Rattle.apcu_model.specs.declared.request.Reply.TheVariants as replies
use Rattle.apcu_model.specs.declared.searching.Pattern.{Pattern}
use Rattle.apcu_model.specs.declared.searching.List.TheVariants.{Active}
use Rattle.apcu_model.specs.declared.searching.Fields.{Fields}
use Rattle.apcu_model.specs.History.{Stage, stage_of, reply_in, after_event}
use Rattle.play_laws.specs.Walks.{WalkStep, chunk_keys}

-- An event as its worker sees it: the cache before it and its moment, the request, and the reply of
-- the single-threaded cache at its place.
pub record Exchange : Type 0 where
  pub step : WalkStep
  pub request : Request
  pub reply : Reply

abbrev pub exchange_at : Stage → Event → Exchange
exchange_at m e = record {
  step = record { cache = m.cache; t = e.t };
  request = e.request;
  reply = reply_in m e;
}

-- those that a worker has in the events after a stage
abbrev pub own_exchanges : ℕ → Stage → List Event → List Exchange
own_exchanges w m [] = []
own_exchanges w m (e ∷ es) =
    cond (e.worker == w)
    (exchange_at m e ∷ own_exchanges w (after_event m e) es)
    (own_exchanges w (after_event m e) es)

-- in the events that a history has after those before them
abbrev pub exchanges_of : Conf → List Event → List Event → ℕ → List Exchange
exchanges_of conf before events w = own_exchanges w (stage_of conf before) events

abbrev pub steps_in : List Exchange → List WalkStep
steps_in exchanges = map {A = Exchange} (λ exchange. exchange.step) exchanges

abbrev pub requests_in : List Exchange → List Request
requests_in exchanges = map {A = Exchange} (λ exchange. exchange.request) exchanges

abbrev pub answers_in : List Exchange → List Reply
answers_in exchanges = map {A = Exchange} (λ exchange. exchange.reply) exchanges

-- the chunk of the reply to a step, as a list of one; no other reply has one
abbrev pub chunks_in : Reply → List Chunk
chunks_in (replies.Chunk chunk) = chunk ∷ []
chunks_in _ = []

-- the slot from which the next step starts
abbrev pub next_in : Reply → ℕ
next_in (replies.Chunk chunk) = chunk.next
next_in _ = 0

-- the requests of a walk: the first step from a slot on, each later one from the `next` of the
-- reply to the one before
abbrev pub walk_requests : Option Pattern → ℕ → Fields → ℕ → List Reply → List Request
walk_requests wanted size fields from [] = []
walk_requests wanted size fields from (reply ∷ answers) =
    requests.Chunk wanted from size Active fields
    ∷ walk_requests wanted size fields (next_in reply) answers

-- the worker's requests are a walk from the slot 0 on
abbrev pub IsWalk : Option Pattern → ℕ → Fields → List Exchange → Type 0
IsWalk wanted size fields exchanges =
    requests_in exchanges ≡ walk_requests wanted size fields 0 (answers_in exchanges)

-- the replies to the worker, step by step, and the keys in them
abbrev pub answered_chunks : List Exchange → List Chunk
answered_chunks exchanges = flat_map chunks_in (answers_in exchanges)

abbrev pub answered_keys : List Exchange → List (List ℕ)
answered_keys exchanges = flat_map chunk_keys (answered_chunks exchanges)
