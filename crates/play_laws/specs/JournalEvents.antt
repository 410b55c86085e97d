-- The events of a journal.
use Rattle.std.specs.Prelude.{List, [], ◌∷◌, Some, unwrap_or}
use Rattle.std.specs.Option.{option_and_then}
use Rattle.apcu_model.specs.declared.conf.Conf.{Conf}
use Rattle.apcu_model.specs.declared.request.Event.{Event}
use Rattle.apcu_model.specs.declared.journal.Mark.{Mark}
use Rattle.script_read.specs.declared.script.Step.{Step}
use Rattle.script_read.specs.Play.{Play, wish_of, event_of, after_wish}

-- each mark's event in the play from which it continues, as far as marks can be played
abbrev pub events_from : Conf → List (List Step) → Play → List Mark → List Event
events_from conf scripts p [] = []
events_from conf scripts p (mark ∷ marks) =
    unwrap_or
    (option_and_then
    (λ wish. Some (event_of mark wish ∷ events_from conf scripts (after_wish p mark wish) marks))
    (wish_of conf scripts p mark.worker)) []
