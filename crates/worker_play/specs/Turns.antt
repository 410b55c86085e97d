-- Whose turn it is after some replies: that of calls that want something, or of those after them.
use Rattle.std.specs.Prelude.{ℕ, List, [], ◌∷◌, Option, Some, None}
use Rattle.apcu_model.specs.declared.conf.Conf.{Conf}
use Rattle.apcu_model.specs.declared.request.Request.{Request}
use Rattle.apcu_model.specs.declared.request.Reply.{Reply}
use Rattle.script_read.specs.declared.script.Step.{Step}
use Rattle.script_read.specs.Play.{Wish, wish_at, Next, Asks, Leaves, asks_each, asks_steps}
use Rattle.script_read.specs.Play.{next_of}

-- Something is wanted; or the turn has ended, and these replies belong to others.
pub data Turn : Type 0 where
  Takes : Wish → Turn
  Over : List Reply → Turn

-- a call's turn at this moment
abbrev pub turn_at : ℕ → Next → Turn
turn_at t (Asks request) = Takes (wish_at t request)
turn_at t (Leaves others) = Over others

-- its turns, after whatever replies
abbrev pub turns_at : ℕ → (List Reply → Next) → List Reply → Turn
turns_at t next replies = turn_at t (next replies)

-- those of these requests, one after the other
abbrev pub asks_at : ℕ → List Request → List Reply → Turn
asks_at t requests = turns_at t (asks_each requests)

-- those of these steps over this number of slots, from this slot on
abbrev pub steps_at : ℕ → ℕ → (ℕ → Request) → ℕ → List Reply → Turn
steps_at t slots ask from = turns_at t (asks_steps slots ask from)

-- the turn of some calls, and after it that of the calls after them
abbrev pub then_turns : (List Reply → Turn) → Turn → Turn
then_turns later (Takes wish) = Takes wish
then_turns later (Over others) = later others

-- the turns of all calls of a script, one after the other
abbrev pub turns_of : Conf → List Step → List Reply → Turn
turns_of conf [] replies = Over replies
turns_of conf (step ∷ steps) replies =
    then_turns (turns_of conf steps) (turns_at step.t (next_of conf step.call) replies)

-- what is wanted
abbrev pub wish_of_turn : Turn → Option Wish
wish_of_turn (Takes wish) = Some wish
wish_of_turn (Over others) = None

-- what is wanted in these turns
abbrev pub wanted_in : (List Reply → Turn) → List Reply → Option Wish
wanted_in turns replies = wish_of_turn (turns replies)
