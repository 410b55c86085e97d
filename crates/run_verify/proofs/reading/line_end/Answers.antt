use Rattle.std.proofs.Common.{arith}
use Rattle.run_verify.proofs.LineBounds.{line_is, line_stops, none_left}
use Rattle.run_verify.proofs.reading.line_end.Goals as goal

pub returns-then-output-end-eq10-clause-line : goal.returns-then-output-end-eq10-clause-line
returns-then-output-end-eq10-clause-line c =
    line_is c.args.output.now c.args.at _ c.requires (omega (arith, c.bytes.invariant.past))
    (omega (arith, c.bytes.invariant.long, c.bytes.invariant.past, line_stops c.args.output.now c.bytes.end c.bytes-test.true c.if-output-end-eq10.true))

pub returns-clause-line : goal.returns-clause-line
returns-clause-line c =
    line_is c.args.output.now c.args.at _ c.requires c.bytes.invariant.past
    (omega (arith, c.bytes.invariant.long, c.bytes.invariant.past, none_left c.args.output.now c.bytes.end (omega (arith, c.bytes-test.false))))
