-- How far a worker's script was played.
use Rattle.std.specs.Prelude.{◌≡◌, ◌≢◌, ℕ, ◌+◌, ◌≤◌, List, [], ◌∷◌, ◌++◌, length, drop}
use Rattle.std.specs.Prelude.{Option, Some, None, Bool, true, false, is_none, slice_get, map}
use Rattle.std.specs.Prelude.{option_map}
use Rattle.php_graph.specs.declared.kind.Kind.{Kind}
use Rattle.apcu_model.specs.declared.conf.Clock.{Clock}
use Rattle.apcu_model.specs.declared.conf.Conf.{Conf}
use Rattle.apcu_model.specs.Asking.{asked}
use Rattle.apcu_model.specs.declared.request.Request.{Request}
use Rattle.apcu_model.specs.declared.request.Reply.{Reply}
use Rattle.apcu_model.specs.declared.searching.Pattern.{Pattern}
use Rattle.simple_pool.specs.declared.call.PoolCall.{PoolCall}
use Rattle.simple_pool.specs.Requests.{request_at}
use Rattle.script_read.specs.declared.call.Call.{Call}
use Rattle.script_read.specs.declared.call.Call.TheVariants.{Pool}
use Rattle.script_read.specs.declared.script.Step.{Step}
use Rattle.script_read.specs.Play.{Asking, Each, Steps, Next, Asks, Leaves, asking_of, asks_each}
use Rattle.script_read.specs.Play.{asks_steps, next_of, wanted, slot_after, Wish}
use Rattle.script_read.specs.Clock.{timed}
use Rattle.script_read.specs.Patterns.{call_pattern}
use Rattle.reply_text.specs.Lines.{script_lines}
use Rattle.mark_play.specs.Asks.{MayBeAsked}
use Rattle.run_verify.specs.declared.asking.Query.{Query}
use Rattle.run_verify.specs.declared.asking.Query.TheVariants.{Lent, Made}
use Rattle.run_verify.specs.declared.seat.Seat.{Seat}

-- what is requested after k replies, by a walk from this slot on
abbrev pub next_from : ℕ → Asking → ℕ → ℕ → List Reply → Next
next_from slots (Each asked) k from replies = asks_each (drop k asked) replies
next_from slots (Steps ask) k from replies = asks_steps slots ask from replies

-- a request, or nothing more
abbrev pub asks_or : Option Request → Next
asks_or (Some request) = Asks request
asks_or None = Leaves []

-- whether it is a request
abbrev pub is_asking : Next → Bool
is_asking (Asks request) = true
is_asking (Leaves others) = false

-- the request that is made
abbrev pub queried : Query → Request
queried (Lent ask) = asked ask
queried (Made request) = request

-- what such a call requests is in its script: it is on no pool
abbrev pub IsLent : Call → Type 0
IsLent (Pool call) = ⊥
IsLent _ = Unit {0}

-- it continues with the request of the event of this number, or it is done if there is none
abbrev pub IsNextEvent : PoolCall → Next → Option ℕ → Type 0
IsNextEvent call next (Some event) =
    (request : Request) × (request_at call event ≡ Some request) × (next ≡ Asks request)
IsNextEvent call next None = next ≡ Leaves []

-- the key, if there is one, is the next that a call on these keys uses, whatever it requests
abbrev pub AsksKeys : List (List ℕ) → ℕ → Option (List ℕ) → Type 0
AsksKeys keys k found =
    (ask : List ℕ → Request) → asks_or (option_map ask found) ≡ asks_each (drop k (map ask keys)) []

-- the same for the pair of these
abbrev pub AsksPairs : List (List ℕ × List Kind) → ℕ → Option (List ℕ × List Kind) → Type 0
AsksPairs pairs k found =
    (ask : (List ℕ × List Kind) → Request)
    → asks_or (option_map ask found) ≡ asks_each (drop k (map ask pairs)) []

-- The call continues like this after its replies.
pub record IsAmidCall (conf : Conf) (call : Call) (seat : Seat) : Type 0 where
  pub next : (more : List Reply) → next_of conf call (seat.replies ++ more)
      ≡ next_from conf.slots (asking_of call) (length seat.replies) seat.from more
  pub pattern : seat.replies ≢ [] → seat.search ≡ call_pattern call

-- After these replies of its worker a script was played up to the call of the seat, whose own
-- replies it keeps; the text is that of the calls before it.
pub record IsSeat (conf : Conf) (script : List Step) (replies : List Reply) (seat : Seat)
    : Type 0 where
  pub within : seat.step ≤ length script
  pub wants : (more : List Reply) → wanted conf script (replies ++ more)
      ≡ wanted conf (drop seat.step script) (seat.replies ++ more)
  pub text : (more : List Reply) → script_lines conf script (replies ++ more)
      ≡ seat.text ++ script_lines conf (drop seat.step script) (seat.replies ++ more)
  pub call : (step : Step) → slice_get script seat.step ≡ Some step
      → IsAmidCall conf step.call seat

-- its call, if there is one, makes a request
pub record IsAsking (conf : Conf) (script : List Step) (seat : Seat) : Type 0 where
  pub asks : (step : Step) → slice_get script seat.step ≡ Some step
      → (request : Request)
      × (next_from conf.slots (asking_of step.call) (length seat.replies) seat.from []
      ≡ Asks request)

-- it is the seat after some replies
pub record IsAnySeat (conf : Conf) (script : List Step) (seat : Seat) : Type 0 where
  pub replies : List Reply
  pub at : IsSeat conf script replies seat

-- it is at the next call, and nothing else has changed except the text
pub record IsNextCall (text : List ℕ) (old new : Seat) : Type 0 where
  pub step : new.step ≡ old.step + 1
  pub replies : new.replies ≡ []
  pub from : new.from ≡ 0
  pub text_is : new.text ≡ old.text ++ text

-- it has one more reply, this one, and nothing else has changed
pub record HasReplyMore (conf : Conf) (reply : Reply) (old new : Seat) : Type 0 where
  pub step : new.step ≡ old.step
  pub replies : new.replies ≡ old.replies ++ reply ∷ []
  pub from : new.from ≡ slot_after conf.slots old.from reply
  pub search : new.search ≡ old.search
  pub text_is : new.text ≡ old.text

-- its search is the one of its call, if there is one, and nothing else has changed
pub record IsSearching (script : List Step) (old new : Seat) : Type 0 where
  pub step : new.step ≡ old.step
  pub replies : new.replies ≡ old.replies
  pub from : new.from ≡ old.from
  pub text_is : new.text ≡ old.text
  pub search : (step : Step) → slice_get script new.step ≡ Some step
      → new.search ≡ call_pattern step.call

-- a request and its moment
abbrev pub queried_wish : Query × ℕ → Wish
queried_wish w = record { request = queried w.0; t = w.1 }

-- it may be made with the search for the call that the seat is at
pub record IsAskable (conf : Conf) (script : List Step) (seat : Seat) (request : Request)
    : Type 0 where
  pub may : (searched : Option Pattern)
      → ((step : Step) → slice_get script seat.step ≡ Some step
      → searched ≡ call_pattern step.call)
      → MayBeAsked conf searched request

-- a seat whose call has made a request has the search for its pattern
abbrev pub KnowsPattern : List Step → Seat → Type 0
KnowsPattern script seat =
    (step : Step) → slice_get script seat.step ≡ Some step → seat.replies ≢ []
    → seat.search ≡ call_pattern step.call

-- before the first call
pub record IsFirst (seat : Seat) : Type 0 where
  pub step : seat.step ≡ 0
  pub replies : seat.replies ≡ []
  pub from : seat.from ≡ 0
  pub text_is : seat.text ≡ []

-- whether its worker wants nothing more, whatever the clock
abbrev pub KnowsDone : List Step → Seat → Bool → Type 0
KnowsDone script seat done =
    (conf : Conf) (clock : Clock) (replies : List Reply)
    → IsSeat conf (timed clock script) replies seat
    → done ≡ is_none (wanted conf (timed clock script) replies)
