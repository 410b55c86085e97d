use Rattle.pin_table.specs.Events.{event}
use Rattle.apcu_model.specs.Asking.{asked}
use Rattle.pin_table.proofs.writer.Writer.give_pass.Given as goal

abbrev pub ghosts-give_as : goal.ghosts-give_as
ghosts-give_as a = record { event = event a.worker a.t (asked a.ask) a.mask }
