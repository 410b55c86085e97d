use Rattle.std.proofs.Common.{arith}
use Rattle.script_read.proofs.EventCounts.{worker_counted}
use Rattle.script_read.proofs.budgets.event_count.Goals as goal

pub returns-in_default-clause-none : goal.returns-in_default-clause-none
returns-in_default-clause-none c =
    let one = worker_counted c.args.slots c.args.scripts.now c.loop-worker.worker c.at.result.now c.at.ensures in
    omega (arith, one, c.in_default.ensures.none, c.loop-worker.invariant.sum)

pub returns-then-events-gt-MOST_EVENTS-clause-none : goal.returns-then-events-gt-MOST_EVENTS-clause-none
returns-then-events-gt-MOST_EVENTS-clause-none c =
    let one = worker_counted c.args.slots c.args.scripts.now c.loop-worker.worker c.at.result.now c.at.ensures in
    omega (arith, one, c.in-Some.ensures.some, c.in-Some.ensures.few, c.from.ensures, c.saturating_add-events.ensures, c.if-events-gt-MOST_EVENTS.true, c.loop-worker.invariant.sum, c.loop-worker.invariant.few)

pub loop-worker-preserved : goal.loop-worker-preserved
loop-worker-preserved c =
    let one = worker_counted c.args.slots c.args.scripts.now c.loop-worker.worker c.at.result.now c.at.ensures in
    record {
      sum = omega (arith, one, c.in-Some.ensures.some, c.in-Some.ensures.few, c.from.ensures, c.saturating_add-events.ensures, c.if-events-gt-MOST_EVENTS.false, c.loop-worker.invariant.sum, c.loop-worker.invariant.few);
      few = omega (arith, c.if-events-gt-MOST_EVENTS.false);
    }
