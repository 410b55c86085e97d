-- The requests of workers to the cache, and the play of a journal.
use Rattle.std.specs.Prelude.{ℕ, nat_lt, ◌&&◌, Bool, true, false, if◌then◌else◌, List, [], ◌∷◌}
use Rattle.std.specs.Prelude.{◌++◌, length, map, Option, Some, None, slice_get, slice_set}
use Rattle.std.specs.Prelude.{unwrap_or, is_none, IsTrue, IsSome}
use Rattle.std.specs.Option.{option_and_then}
use Rattle.apcu_model.specs.declared.conf.Conf.{Conf}
use Rattle.apcu_model.specs.declared.request.Event.{Event}
use Rattle.apcu_model.specs.declared.journal.Mark.{Mark}
use Rattle.apcu_model.specs.declared.request.Request.{Request}
use Rattle.apcu_model.specs.declared.request.Request.TheVariants as requests
use Rattle.apcu_model.specs.declared.request.Reply.{Reply}
use Rattle.apcu_model.specs.declared.request.Reply.TheVariants as answers
use Rattle.apcu_model.specs.declared.searching.List.TheVariants.{Active, Deleted}
use Rattle.apcu_model.specs.History.{Stage, start_of, is_legal_mask, reply_in, after_event}
use Rattle.script_read.specs.declared.call.Call.{Call}
use Rattle.script_read.specs.declared.call.Call.TheVariants.{StoreOne, StoreMany, FetchOne}
use Rattle.script_read.specs.declared.call.Call.TheVariants.{FetchMany, ExistsOne, ExistsMany}
use Rattle.script_read.specs.declared.call.Call.TheVariants.{DeleteOne, DeleteMany, Inc, Cas, Clear}
use Rattle.script_read.specs.declared.call.Call.TheVariants.{Enabled, Entry, KeyInfo, CacheInfo}
use Rattle.script_read.specs.declared.call.Call.TheVariants.{SmaInfo, Walk, WalkDelete, Totals}
use Rattle.script_read.specs.declared.call.Call.TheVariants.{Pool}
use Rattle.script_read.specs.declared.script.Step.{Step}
use Rattle.simple_pool.specs.Requests.{PoolAsking, pool_asking}
use Rattle.simple_pool.specs.Requests as pools

-- The requests of a call: these, one after the other; or step by step, each by the slot from which
-- it continues.
pub data Asking : Type 0 where
  Each : List Request → Asking
  Steps : (ℕ → Request) → Asking

-- those of a pool's call
abbrev pub asking_in : PoolAsking → Asking
asking_in (pools.Each asked) = Each asked
asking_in (pools.Steps ask) = Steps ask

-- `apcu_enabled` makes no request. The removed rows are walked over in one step.
abbrev pub asking_of : Call → Asking
asking_of (StoreOne key value ttl exclusive) = Each (requests.Store key value ttl exclusive ∷ [])
asking_of (StoreMany pairs ttl exclusive) =
    Each (map (λ pair. requests.Store pair.0 pair.1 ttl exclusive) pairs)
asking_of (FetchOne key) = Each (requests.Fetch key ∷ [])
asking_of (FetchMany keys) = Each (map requests.Fetch keys)
asking_of (ExistsOne key) = Each (requests.Exists key ∷ [])
asking_of (ExistsMany keys) = Each (map requests.Exists keys)
asking_of (DeleteOne key) = Each (requests.Delete key ∷ [])
asking_of (DeleteMany keys) = Each (map requests.Delete keys)
asking_of (Inc key step ttl) = Each (requests.Inc key step ttl ∷ [])
asking_of (Cas key expect set) = Each (requests.Cas key expect set ∷ [])
asking_of (Entry gen) = Each (requests.Entry gen ∷ [])
asking_of Clear = Each (requests.Clear ∷ [])
asking_of Enabled = Each []
asking_of (KeyInfo key) = Each (requests.KeyInfo key ∷ [])
asking_of (CacheInfo limited) = Each (requests.CacheInfo limited ∷ [])
asking_of (SmaInfo limited) = Each (requests.SmaInfo limited ∷ [])
asking_of (Walk wanted fields size Active) =
    Steps (λ from. requests.Chunk wanted from size Active fields)
asking_of (Walk wanted fields size Deleted) =
    Each (requests.Chunk wanted 0 size Deleted fields ∷ [])
asking_of (WalkDelete wanted size) = Steps (λ from. requests.ChunkDelete wanted from size)
asking_of (Totals wanted list) = Each (requests.Totals wanted list ∷ [])
asking_of (Pool call) = asking_in (pool_asking call.pool call.ask)

-- What a call does next, after it got some replies: it makes one more request, or it is done and
-- leaves the replies that belong to the calls after it.
pub data Next : Type 0 where
  Asks : Request → Next
  Leaves : List Reply → Next

-- these requests, one after the other
abbrev pub asks_each : List Request → List Reply → Next
asks_each [] replies = Leaves replies
asks_each (request ∷ more) [] = Asks request
asks_each (request ∷ more) (reply ∷ replies) = asks_each more replies

-- the slot at which a step ended, if the reply is a step's
abbrev pub step_end : ℕ → Reply → ℕ
step_end slots (answers.Chunk chunk) = chunk.next
step_end slots (answers.Next next) = next
step_end slots _ = slots

-- The slot from which a walk continues after a step from this one; the number of slots is its end.
-- The steps of a cache go up. A reply that does not, which no cache gives, ends the walk.
abbrev pub slot_after : ℕ → ℕ → Reply → ℕ
slot_after slots from reply =
    if nat_lt from (step_end slots reply) then step_end slots reply else slots

-- step by step, as long as slots are left
abbrev pub asks_steps : ℕ → (ℕ → Request) → ℕ → List Reply → Next
asks_steps slots ask from [] = if nat_lt from slots then Asks (ask from) else Leaves []
asks_steps slots ask from (reply ∷ replies) =
    if nat_lt from slots then asks_steps slots ask (slot_after slots from reply) replies
    else Leaves (reply ∷ replies)

-- a walk begins at the first slot
abbrev pub asks_so : ℕ → Asking → List Reply → Next
asks_so slots (Each asked) replies = asks_each asked replies
asks_so slots (Steps ask) replies = asks_steps slots ask 0 replies

abbrev pub next_of : Conf → Call → List Reply → Next
next_of conf call replies = asks_so conf.slots (asking_of call) replies

-- a request and its moment
pub record Wish : Type 0 where
  pub request : Request
  pub t : ℕ

-- the moment of a request of a call at moment t: those that use no moment have 0
abbrev pub moment_for : ℕ → Request → ℕ
moment_for t (requests.CacheInfo limited) = 0
moment_for t (requests.SmaInfo limited) = 0
moment_for t requests.Retire = 0
moment_for t _ = t

abbrev pub wish_at : ℕ → Request → Wish
wish_at t request = record { request = request; t = moment_for t request }

-- the call's request, or else what the calls after it want
abbrev pub continued : ℕ → (List Reply → Option Wish) → Next → Option Wish
continued t later (Asks request) = Some (wish_at t request)
continued t later (Leaves others) = later others

-- A worker's next request after these replies: that of the first call that is not done; after the
-- last call its end, at the moment 0, and then nothing.
abbrev pub wanted : Conf → List Step → List Reply → Option Wish
wanted conf [] [] = Some (record { request = requests.Retire; t = 0 })
wanted conf [] (reply ∷ replies) = None
wanted conf (step ∷ steps) replies =
    continued step.t (wanted conf steps) (next_of conf step.call replies)

-- After some events: the cache, and the replies to each worker.
pub record Play : Type 0 where
  pub stage : Stage
  pub replies : List (List Reply)

-- no request was made yet
abbrev pub nothing_played : Conf → List (List Step) → Play
nothing_played conf scripts = record { stage = start_of conf; replies = map (λ script. []) scripts }

abbrev pub script_of : List (List Step) → ℕ → Option (List Step)
script_of scripts worker = slice_get scripts worker

-- the replies that a worker had
abbrev pub replies_of : Play → ℕ → List Reply
replies_of p worker = unwrap_or (slice_get p.replies worker) []

-- what a worker wants now
abbrev pub wish_of : Conf → List (List Step) → Play → ℕ → Option Wish
wish_of conf scripts p worker =
    option_and_then (λ script. wanted conf script (replies_of p worker)) (script_of scripts worker)

-- a worker's event
abbrev pub event_of : Mark → Wish → Event
event_of mark wish = record {
  worker = mark.worker;
  t = wish.t;
  request = wish.request;
  mask = mark.mask;
}

-- the play after an event, with the reply of the single-threaded cache
abbrev pub after_wish : Play → Mark → Wish → Play
after_wish p mark wish = record {
  stage = after_event p.stage (event_of mark wish);
  replies = slice_set p.replies mark.worker
      (replies_of p mark.worker ++ reply_in p.stage (event_of mark wish) ∷ []);
}

-- the play after one more mark: its worker wants something, and its mask is legal
abbrev pub marked : Conf → List (List Step) → Play → Mark → Option Play
marked conf scripts p mark =
    if is_legal_mask (length scripts) mark.worker p.stage mark.mask
    then option_and_then (λ wish. Some (after_wish p mark wish))
    (wish_of conf scripts p mark.worker)
    else None

-- the play of a journal, if each of its marks can be played
abbrev pub played_from : Conf → List (List Step) → Play → List Mark → Option Play
played_from conf scripts p [] = Some p
played_from conf scripts p (mark ∷ marks) =
    option_and_then (λ q. played_from conf scripts q marks) (marked conf scripts p mark)

abbrev pub played : Conf → List (List Step) → List Mark → Option Play
played conf scripts journal = played_from conf scripts (nothing_played conf scripts) journal

-- all marks can be played
abbrev pub IsLegal : Conf → List (List Step) → List Mark → Type 0
IsLegal conf scripts journal = IsSome (played conf scripts journal)

-- a script and its replies: nothing more is wanted
abbrev pub are_done : Conf → List (List Step) → List (List Reply) → Bool
are_done conf [] replies = true
are_done conf (script ∷ scripts) [] = false
are_done conf (script ∷ scripts) (replies ∷ others) =
    is_none (wanted conf script replies) && are_done conf scripts others

-- after a legal journal no worker wants anything
abbrev pub is_complete_play : Conf → List (List Step) → Option Play → Bool
is_complete_play conf scripts None = false
is_complete_play conf scripts (Some p) = are_done conf scripts p.replies

abbrev pub IsCompletePlay : Conf → List (List Step) → List Mark → Type 0
IsCompletePlay conf scripts journal =
    IsTrue (is_complete_play conf scripts (played conf scripts journal))
