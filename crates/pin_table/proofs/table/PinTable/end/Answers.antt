use Rattle.std.proofs.Common.{◌≡◌}
use mathlib.Core.Option.{some}
use lib.ListN.{get_elem?}
use Rattle.pin_table.specs.Lists.{known_list}
use Rattle.atomic_table.proofs.Lists.{at_longer}
use Rattle.pin_table.proofs.PassLists.{get_known}
use Rattle.pin_table.proofs.table.PinTable.end.Goals as goal

pub returns-clause-seen : goal.returns-clause-seen
returns-clause-seen c = λ k b h.
    let at : get_elem? c.gather.new.seat.state.log.closed k ≡ some b.known = rw c.gather.ensures.closed (at_longer (known_list c.args.ended.ended) c.args.seat.state.log.closed k b.known (get_known c.args.ended.ended k b h)) in
    let f = c.gather.ensures.order.1.log.closed k b.known at in
    rw (← c.gather.ensures.history) f.seen

pub returns-clause-own : goal.returns-clause-own
returns-clause-own c = λ k b h.
    let at : get_elem? c.gather.new.seat.state.log.closed k ≡ some b.known = rw c.gather.ensures.closed (at_longer (known_list c.args.ended.ended) c.args.seat.state.log.closed k b.known (get_known c.args.ended.ended k b h)) in
    let f = c.gather.ensures.order.1.log.closed k b.known at in
    rw (← c.gather.ensures.history) f.own

pub returns-clause-made : goal.returns-clause-made
returns-clause-made c = λ k b h.
    let at : get_elem? c.gather.new.seat.state.log.closed k ≡ some b.known = rw c.gather.ensures.closed (at_longer (known_list c.args.ended.ended) c.args.seat.state.log.closed k b.known (get_known c.args.ended.ended k b h)) in
    let f = c.gather.ensures.order.1.log.closed k b.known at in
    f.saw_own
