use Rattle.script_read.proofs.TableRows.{first_refused}
use Rattle.script_read.proofs.lines.line.Goals as goal

pub returns-then-begun-eq0-clause-read : goal.returns-then-begun-eq0-clause-read
returns-then-begun-eq0-clause-read c = first_refused c.fault.result c.args.begun c.args.line.now c.if-begun-eq0.true c.fault.ensures
