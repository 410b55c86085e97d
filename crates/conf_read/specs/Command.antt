-- Options over clap's own definitions.
use Rattle.std.specs.Prelude.{List, [], ◌∷◌, Some}
use Rattle.clap.specs.Words.{App, Rule, Text, new_rule, with_rule}

-- an option of one value, by its long name
abbrev pub option_rule : Text → Rule
option_rule name = record (new_rule name) { long = Some name }

-- a command with an option for each of these names
abbrev pub with_options : App → List Text → App
with_options app [] = app
with_options app (name ∷ names) = with_options (with_rule app (option_rule name)) names
