use Rattle.pin_table.specs.Events.{event}
use Rattle.apcu_model.specs.Asking.{asked}
use Rattle.pin_table.proofs.writer.Writer.give_copying.Given as goal

abbrev pub ghosts-copy_as : goal.ghosts-copy_as
ghosts-copy_as a = record { event = event a.worker a.t (asked a.ask) a.mask }
