use Rattle.std.proofs.Common.{◌≡◌, drop}
use Rattle.clap.specs.Words.{app_of}
use Rattle.conf_read.specs.Command.{with_options}
use Rattle.conf_read.specs.Options.{names_of}
use Rattle.conf_read.proofs.command.with_options.Given as goal

abbrev pub invariant-loop-row : goal.invariant-loop-row
invariant-loop-row l = with_options (app_of l.initial.command) (names_of l.rows) ≡ with_options (app_of l.command) (names_of (drop l.row-index l.rows))
