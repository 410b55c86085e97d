use Rattle.std.proofs.Common.{arith, length-append, ◌∷◌, [], ap, length}
use Rattle.script_read.proofs.EventCounts.{worker_counted}
use Rattle.crew_play.proofs.EventCounts.{budgets_go_on}
use Rattle.crew_play.proofs.budgets.budgets.Goals as goal

pub returns-in_default-clause-many : goal.returns-in_default-clause-many
returns-in_default-clause-many c = λ is.
    let one = worker_counted c.args.slots c.args.scripts.now c.loop-worker.worker c.at.result.now c.at.ensures in
    omega (arith, one, c.in_default.ensures.none, c.loop-worker.invariant.sum)

pub returns-then-events-gt-MOST_EVENTS-clause-many : goal.returns-then-events-gt-MOST_EVENTS-clause-many
returns-then-events-gt-MOST_EVENTS-clause-many c = λ is.
    let one = worker_counted c.args.slots c.args.scripts.now c.loop-worker.worker c.at.result.now c.at.ensures in
    omega (arith, one, c.in-Some.ensures.some, c.in-Some.ensures.few, c.from.ensures, c.saturating_add-events.ensures, c.if-events-gt-MOST_EVENTS.true, c.loop-worker.invariant.sum, c.loop-worker.invariant.few)

pub loop-worker-preserved : goal.loop-worker-preserved
loop-worker-preserved c =
    let one = worker_counted c.args.slots c.args.scripts.now c.loop-worker.worker c.at.result.now c.at.ensures in
    let i = c.loop-worker.invariant in
    record {
      budgets = budgets_go_on c.args.slots c.args.scripts.now c.loop-worker.worker c.at.result.now c.loop-worker.all.items c.push_reserved.new.self.items c.in-Some.budget c.at.ensures c.in-Some.ensures.some i.budgets c.push_reserved.ensures.items;
      sum = omega (arith, one, c.in-Some.ensures.some, c.in-Some.ensures.few, c.from.ensures, c.saturating_add-events.ensures, c.if-events-gt-MOST_EVENTS.false, i.sum, i.few);
      few = omega (arith, c.if-events-gt-MOST_EVENTS.false);
      count = omega (arith, i.count, ap length c.push_reserved.ensures.items, length-append c.loop-worker.all.items (c.in-Some.budget ∷ []));
      room = omega (arith, i.room, c.push_reserved.ensures.capacity);
    }
