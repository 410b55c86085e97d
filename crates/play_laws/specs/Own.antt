-- The requests and replies of one worker of many.
use Rattle.std.specs.Prelude.{◌≡◌, ℕ, ◌==◌, cond, List, [], ◌∷◌, length, take, slice_get}
use Rattle.std.specs.Prelude.{Option, Some, None}
use Rattle.apcu_model.specs.declared.conf.Conf.{Conf}
use Rattle.apcu_model.specs.declared.request.Event.{Event}
use Rattle.apcu_model.specs.declared.request.Reply.{Reply}
use Rattle.apcu_model.specs.History.{Stage, start_of, reply_in, after_event}
use Rattle.script_read.specs.declared.script.Step.{Step}
use Rattle.script_read.specs.Play.{Wish, wanted}

-- the replies of a worker's events, each that of the single-threaded cache at its place
abbrev pub own_replies_from : ℕ → Stage → List Event → List Reply
own_replies_from w m [] = []
own_replies_from w m (e ∷ es) =
    cond (e.worker == w)
    (reply_in m e ∷ own_replies_from w (after_event m e) es)
    (own_replies_from w (after_event m e) es)

-- in a history from the start
abbrev pub own_replies : Conf → ℕ → List Event → List Reply
own_replies conf w history = own_replies_from w (start_of conf) history

-- the request of an event, and its moment
abbrev pub wish_in : Event → Wish
wish_in e = record { request = e.request; t = e.t }

-- Wishes and replies in turn: each wish is what is wanted after the replies before it, and each has
-- its reply.
pub record AreInTurn (wants : List Reply → Option Wish) (wishes : List Wish)
    (replies : List Reply) : Type 0 where
  pub count : length replies ≡ length wishes
  pub each : (k : ℕ) (wish : Wish) → slice_get wishes k ≡ Some wish
      → wants (take k replies) ≡ Some wish

-- A worker that got these replies has made all requests of its script, its end included.
pub record HasPlayed (conf : Conf) (script : List Step) (wishes : List Wish)
    (replies : List Reply) : Type 0 where
  pub in_turn : AreInTurn (wanted conf script) wishes replies
  pub done : wanted conf script replies ≡ None
