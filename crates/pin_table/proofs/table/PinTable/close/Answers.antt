use Rattle.std.proofs.Common.{◌≡◌, true, sym, subst, arith}
use mathlib.Core.Option.{some}
use lib.ListN.{get_elem?}
use Rattle.pin_table.specs.Lists.{known_list}
use Rattle.atomic_table.proofs.Lists.{at_longer}
use Rattle.pin_table.specs.Views.{has_worker}
use Rattle.pin_table.proofs.PassLists.{among_front, get_known}
use Rattle.pin_table.proofs.table.PinTable.close.Goals as goal

pub dissolve-requires-clause-every : goal.dissolve-requires-clause-every
dissolve-requires-clause-every c = λ w h.
    let every = c.requires.every w (omega (arith, h, c.gather.ensures.made)) in
    subst (λ ps. has_worker w ps ≡ true) (sym c.gather.ensures.closed) (among_front (known_list c.args.ended.ended) c.args.seat.state.log.closed w every)

pub returns-clause-seen : goal.returns-clause-seen
returns-clause-seen c = λ k b h.
    let at : get_elem? c.gather.new.seat.state.log.closed k ≡ some b.known = rw c.gather.ensures.closed (at_longer (known_list c.args.ended.ended) c.args.seat.state.log.closed k b.known (get_known c.args.ended.ended k b h)) in
    let f = c.gather.ensures.order.1.log.closed k b.known at in
    rw (← c.gather.ensures.history) f.seen

pub returns-clause-own : goal.returns-clause-own
returns-clause-own c = λ k b h.
    let at : get_elem? c.gather.new.seat.state.log.closed k ≡ some b.known = rw c.gather.ensures.closed (at_longer (known_list c.args.ended.ended) c.args.seat.state.log.closed k b.known (get_known c.args.ended.ended k b h)) in
    let f = c.gather.ensures.order.1.log.closed k b.known at in
    rw (← c.gather.ensures.history) f.own

pub returns-clause-made : goal.returns-clause-made
returns-clause-made c = λ k b h.
    let at : get_elem? c.gather.new.seat.state.log.closed k ≡ some b.known = rw c.gather.ensures.closed (at_longer (known_list c.args.ended.ended) c.args.seat.state.log.closed k b.known (get_known c.args.ended.ended k b h)) in
    let f = c.gather.ensures.order.1.log.closed k b.known at in
    f.saw_own
