use Rattle.std.proofs.Common.{◌++◌}
use Rattle.run_verify.specs.TextPieces.{DiffersAt}
use Rattle.run_verify.proofs.FirstDifferences.{later, err_weaker}
use Rattle.run_verify.proofs.comparing.match_both.Goals as goal

pub returns-in-Ok-clause-differs : goal.returns-in-Ok-clause-differs
returns-in-Ok-clause-differs c =
    err_weaker {P = DiffersAt c.args.output.now c.in-Ok.mid c.args.second.now} {Q = DiffersAt c.args.output.now c.args.at (c.args.first.now ++ c.args.second.now)} c.match_piece-in-Ok.result
    (λ e h. later c.args.output.now c.args.at c.in-Ok.mid e c.args.first.now c.args.second.now c.in-Ok.ensures.has h) c.match_piece-in-Ok.ensures.differs
