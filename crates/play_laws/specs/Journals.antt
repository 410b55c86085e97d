-- The part of a play in which a worker makes one call.
use Rattle.std.specs.Prelude.{◌≡◌, ℕ, Bool, true, false, List, [], ◌∷◌, ◌++◌, length, drop}
use Rattle.std.specs.Prelude.{slice_get, Some}
use Rattle.apcu_model.specs.declared.conf.Conf.{Conf}
use Rattle.apcu_model.specs.declared.request.Reply.{Reply}
use Rattle.script_read.specs.declared.script.Step.{Step}
use Rattle.script_read.specs.Play.{Next, Asks, Leaves, Play, next_of, replies_of}

-- a call that continues is not made; one that is done leaves these replies to the calls after it
abbrev pub made_then : (List Reply → Bool) → Next → Bool
made_then later (Asks request) = false
made_then later (Leaves others) = later others

-- the calls are all done, with exactly these replies
abbrev pub are_made : Conf → List Step → List Reply → Bool
are_made conf [] [] = true
are_made conf [] (reply ∷ replies) = false
are_made conf (step ∷ steps) replies =
    made_then (are_made conf steps) (next_of conf step.call replies)

-- the call continues, or is done with all replies that it was given
abbrev pub leaves_none : Next → Bool
leaves_none (Asks request) = true
leaves_none (Leaves []) = true
leaves_none (Leaves (reply ∷ others)) = false

-- the replies to a worker between two points of a play
abbrev pub answered_between : Play → Play → ℕ → List Reply
answered_between p q w = drop (length (replies_of p w)) (replies_of q w)

-- Between two points of a play the worker makes this step's call and no other: at the first it has
-- made what its script has before the step, and all replies to it up to the second are this call's.
pub record MakesCall (conf : Conf) (scripts : List (List Step)) (p q : Play) (w : ℕ) (step : Step)
    : Type 0 where
  pub earlier : List Step
  pub later : List Step
  pub script : slice_get scripts w ≡ Some (earlier ++ step ∷ later)
  pub made : are_made conf earlier (replies_of p w) ≡ true
  pub own : leaves_none (next_of conf step.call (answered_between p q w)) ≡ true
