use Rattle.std.proofs.Common.{arith}
use Rattle.script_read.proofs.EventCounts.{step_counted}
use Rattle.script_read.proofs.budgets.budget.Goals as goal

pub returns-then-events-gt-MOST_EVENTS-clause-none : goal.returns-then-events-gt-MOST_EVENTS-clause-none
returns-then-events-gt-MOST_EVENTS-clause-none c =
    let one = step_counted c.args.slots c.args.script.now c.loop-number.number c.at.result.now c.at.ensures.step in
    omega (arith, one, c.events.ensures, c.saturating_add-events.ensures, c.if-events-gt-MOST_EVENTS.true, c.loop-number.invariant.sum, c.loop-number.invariant.few)

pub loop-number-preserved : goal.loop-number-preserved
loop-number-preserved c =
    let one = step_counted c.args.slots c.args.script.now c.loop-number.number c.at.result.now c.at.ensures.step in
    record {
      sum = omega (arith, one, c.events.ensures, c.saturating_add-events.ensures, c.if-events-gt-MOST_EVENTS.false, c.loop-number.invariant.sum, c.loop-number.invariant.few);
      few = omega (arith, c.if-events-gt-MOST_EVENTS.false);
    }
