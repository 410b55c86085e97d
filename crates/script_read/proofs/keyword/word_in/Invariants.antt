use Rattle.std.proofs.Common.{◌≡◌}
use Rattle.script_read.specs.Table.{form_in}
use Rattle.script_read.specs.Gives.{forms_of}
use Rattle.script_read.proofs.Keywords.{left}
use Rattle.script_read.proofs.keyword.word_in.Given as goal

abbrev pub invariant-loop-row : goal.invariant-loop-row
invariant-loop-row l = form_in (forms_of l.rows) l.text ≡ left l.rows l.row-index l.text
