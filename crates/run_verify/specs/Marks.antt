-- Playing a mark.
use Rattle.std.specs.Prelude.{◌≡◌, ◌+◌, Bool, true, false, List, [], ◌∷◌, ◌++◌, Some, None}
use Rattle.apcu_model.specs.declared.conf.Conf.{Conf}
use Rattle.apcu_model.specs.declared.journal.Mark.{Mark}
use Rattle.apcu_model.specs.declared.request.Reply.{Reply}
use Rattle.apcu_model.specs.History.{after_event, reply_in}
use Rattle.script_read.specs.declared.script.Step.{Step}
use Rattle.script_read.specs.Play.{Wish, event_of, wanted}
use Rattle.mark_play.specs.ReplayStages.{Replayed}
use Rattle.run_verify.specs.declared.seat.Seat.{Seat}
use Rattle.run_verify.specs.Seats.{IsSeat}

-- The worker wants something: its event was made at the stage that was reached, with the mask of
-- the mark, and it has one more reply, that of the single-threaded cache there.
pub record IsMade (conf : Conf) (script : List Step) (replies : List Reply) (old new : Replayed)
    (seat : Seat) (mark : Mark) : Type 0 where
  pub wish : Wish
  pub wants : wanted conf script replies ≡ Some wish
  pub stage : new.stage ≡ after_event old.stage (event_of mark wish)
  pub shape : new.stage.cache.conf ≡ old.stage.cache.conf
  pub left : new.left + 1 ≡ old.left
  pub seat_is : IsSeat conf script (replies ++ reply_in old.stage (event_of mark wish) ∷ []) seat

-- or it wants nothing
abbrev pub IsMadeIfWanted : Conf → List Step → List Reply → Replayed → Replayed → Seat → Mark → Bool
    → Type 0
IsMadeIfWanted conf script replies old new seat mark true =
    IsMade conf script replies old new seat mark
IsMadeIfWanted conf script replies old new seat mark false = wanted conf script replies ≡ None
