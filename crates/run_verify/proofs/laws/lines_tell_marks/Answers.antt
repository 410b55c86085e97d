use Rattle.run_verify.proofs.MarkLines.{told, read}
use Rattle.run_verify.proofs.laws.lines_tell_marks.Goals as goal

pub returns-clause-lines : goal.returns-clause-lines
returns-clause-lines c = told

pub returns-clause-read : goal.returns-clause-read
returns-clause-read c = read
