use Rattle.reply_text.specs.Output.{mark_line}
use Rattle.run_verify.proofs.LinePieces.{whole_piece, no_piece}
use Rattle.run_verify.proofs.reading.is_line_of.Goals as goal

pub returns-in-Ok : goal.returns-in-Ok
returns-in-Ok c = whole_piece c.args.line.now (mark_line c.args.mark) c.in-Ok.to c.in-Ok.ensures.has

pub returns-in-Err : goal.returns-in-Err
returns-in-Err c = no_piece c.args.line.now (mark_line c.args.mark) c.in-Err.field-0 c.in-Err.ensures.differs
