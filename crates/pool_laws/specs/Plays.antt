-- The events of a journal, each with the pool whose call made it, and with its reply.
use Rattle.std.specs.Prelude.{◌≡◌, ℕ, List, [], ◌∷◌, map, filter}
use Rattle.std.specs.Prelude.{Option, Some, None, option_and_then}
use Rattle.std.specs.Option.{option_map_or}
use Rattle.apcu_model.specs.declared.conf.Conf.{Conf}
use Rattle.apcu_model.specs.declared.journal.Mark.{Mark}
use Rattle.apcu_model.specs.declared.request.Reply.{Reply}
use Rattle.apcu_model.specs.History.{reply_in}
use Rattle.script_read.specs.declared.call.Call.{Call}
use Rattle.script_read.specs.declared.call.Call.TheVariants.{Pool}
use Rattle.script_read.specs.declared.script.Step.{Step}
use Rattle.script_read.specs.Play.{Next, Asks, Leaves, Wish, Play, next_of, nothing_played}
use Rattle.script_read.specs.Play.{replies_of, script_of, wish_of, event_of, after_wish}
use Rattle.pool_laws.specs.Calls.{Asked, is_by}
use Rattle.pool_laws.specs.Pools.{map_answers}

-- the call itself if it makes a request, or else the one among those after it that does
abbrev pub caller : Call → (List Reply → Option Call) → Next → Option Call
caller call later (Asks request) = Some call
caller call later (Leaves others) = later others

-- the call whose request a worker wants after these replies; none at its end
abbrev pub calling : Conf → List Step → List Reply → Option Call
calling conf [] replies = None
calling conf (step ∷ steps) replies =
    caller step.call (calling conf steps) (next_of conf step.call replies)

-- the pool of a call
abbrev pub pool_of : Call → Option (List ℕ)
pool_of (Pool call) = Some call.pool
pool_of _ = None

-- the pool whose call a worker of a play makes next
abbrev pub pool_wanted : Conf → List (List Step) → Play → ℕ → Option (List ℕ)
pool_wanted conf scripts p worker =
    option_and_then
    (λ script. option_and_then pool_of (calling conf script (replies_of p worker)))
    (script_of scripts worker)

-- an event, its pool, and the reply that it got in the play
pub record Answered : Type 0 where
  pub asked : Asked
  pub reply : Reply

abbrev pub answered_at : Conf → List (List Step) → Play → Mark → Wish → Answered
answered_at conf scripts p mark wish = record {
  asked = record { pool = pool_wanted conf scripts p mark.worker; event = event_of mark wish };
  reply = reply_in p.stage (event_of mark wish);
}

-- the events of a journal's marks from a play on, as far as they can be played
abbrev pub answered_after : Conf → List (List Step) → Play → List Mark → List Answered
answered_after conf scripts p [] = []
answered_after conf scripts p (mark ∷ marks) =
    option_map_or
    (λ wish. answered_at conf scripts p mark wish
    ∷ answered_after conf scripts (after_wish p mark wish) marks)
    (wish_of conf scripts p mark.worker) []

abbrev pub answered_by : Conf → List (List Step) → List Mark → List Answered
answered_by conf scripts journal = answered_after conf scripts (nothing_played conf scripts) journal

abbrev pub asked_in : List Answered → List Asked
asked_in told = map {A = Answered} (λ x. x.asked) told

-- Each reply to an event of the pool's calls is that of its map, which began empty and saw only
-- these events.
abbrev pub PoolStandsAlone : List ℕ → Conf → List Answered → Type 0
PoolStandsAlone name conf told =
    let own = filter (λ (x : Answered). is_by name x.asked) told in
    map {A = Answered} (λ x. x.reply) own
    ≡ map_answers conf.slots [] (map {A = Answered} (λ x. x.asked.event) own)
