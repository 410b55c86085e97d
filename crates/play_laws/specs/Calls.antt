-- The requests of one worker of many for one call, in some events of a history.
use Rattle.std.specs.Prelude.{ℕ, List, map, Option, None}
use Rattle.apcu_model.specs.declared.conf.Conf.{Conf}
use Rattle.apcu_model.specs.declared.request.Event.{Event}
use Rattle.apcu_model.specs.declared.request.Reply.{Reply}
use Rattle.apcu_model.specs.History.{stage_of}
use Rattle.pin_table.specs.Events.{events_of}
use Rattle.script_read.specs.declared.call.Call.{Call}
use Rattle.script_read.specs.Play.{Wish, next_of, continued}
use Rattle.play_laws.specs.Own.{AreInTurn, own_replies_from, wish_in}

-- what a call at this moment wants after these replies; nothing, once it is done
abbrev pub wanted_by : Conf → ℕ → Call → List Reply → Option Wish
wanted_by conf t call replies = continued t (λ others. None) (next_of conf call replies)

-- a worker's replies in the events that a history has after those before them
abbrev pub replies_in : Conf → List Event → List Event → ℕ → List Reply
replies_in conf before events w = own_replies_from w (stage_of conf before) events

-- the worker's requests in these events are what the call wants, in turn, after their replies
abbrev pub IsAskedIn : Conf → ℕ → Call → List Event → List Event → ℕ → Type 0
IsAskedIn conf t call before events w =
    AreInTurn (wanted_by conf t call) (map wish_in (events_of w events))
    (replies_in conf before events w)
