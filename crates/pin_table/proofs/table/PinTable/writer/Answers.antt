use Rattle.std.proofs.Common.{Some, refl, ap, ◌∙◌, subst}
use Rattle.pin_table.specs.declared.views.EventLog.{EventLog}
use Rattle.pin_table.specs.declared.views.WriterState.{WriterState}
use Rattle.pin_table.specs.Values.{WriterView}
use Rattle.pin_table.specs.Views.{with_hand}
use Rattle.pin_table.specs.Order.{LogInOrder}
use Rattle.pin_table.proofs.EventLogs.{room_left}
use Rattle.pin_table.proofs.table.PinTable.writer.Goals as goal

pub returns-clause-seen : goal.returns-clause-seen
returns-clause-seen c =
    let b : EventLog = with_hand c.args.seat.now.state.log (Some c.args.pass.known) in
    let o = c.look.ensures.state in
    let ok : LogInOrder b = subst (λ (d : WriterState). LogInOrder d.log) (ap (λ (w : WriterView). w.state) c.look.ensures.seat ∙ c.take.ensures.state) o.1.log in
    let f = ok.hand c.args.pass.known refl in
    f.seen

pub returns-clause-own : goal.returns-clause-own
returns-clause-own c =
    let b : EventLog = with_hand c.args.seat.now.state.log (Some c.args.pass.known) in
    let o = c.look.ensures.state in
    let ok : LogInOrder b = subst (λ (d : WriterState). LogInOrder d.log) (ap (λ (w : WriterView). w.state) c.look.ensures.seat ∙ c.take.ensures.state) o.1.log in
    let f = ok.hand c.args.pass.known refl in
    f.own

pub returns-clause-made : goal.returns-clause-made
returns-clause-made c =
    let b : EventLog = with_hand c.args.seat.now.state.log (Some c.args.pass.known) in
    let o = c.look.ensures.state in
    let ok : LogInOrder b = subst (λ (d : WriterState). LogInOrder d.log) (ap (λ (w : WriterView). w.state) c.look.ensures.seat ∙ c.take.ensures.state) o.1.log in
    let f = ok.hand c.args.pass.known refl in
    f.saw_own

pub returns-clause-room : goal.returns-clause-room
returns-clause-room c =
    let b : EventLog = with_hand c.args.seat.now.state.log (Some c.args.pass.known) in
    let o = c.look.ensures.state in
    let ok : LogInOrder b = subst (λ (d : WriterState). LogInOrder d.log) (ap (λ (w : WriterView). w.state) c.look.ensures.seat ∙ c.take.ensures.state) o.1.log in
    room_left b c.args.pass.known ok refl
