use Rattle.std.proofs.Common.{◌≡◌, ap, sym, ◌∙◌}
use Rattle.pin_table.specs.declared.views.WriterState.{WriterState}
use Rattle.pin_table.specs.Values.{WriterView, PassView}
use Rattle.pin_table.specs.Views.{state_of, known_of}
use Rattle.pin_table.proofs.RuleSteps as ruled
use Rattle.pin_table.proofs.table.PinTable.take_in.Goals as goal

pub join_seat-requires : goal.join_seat-requires
join_seat-requires c =
    let t : c.seat.inside.seat.table_id ≡ c.self.inside.table.shared.table_id = ap (λ (w : WriterView). w.table) c.seat.view_is ∙ (c.requires.table ∙ sym c.self.view_is) in
    let d : state_of c.seat.inside.seat.me.0 ≡ c.args.seat.now.state = ap (λ (w : WriterView). w.state) c.seat.view_is in (
      t,
      ap (λ (w : PassView). w.table) c.pass.view_is ∙ (c.requires.pass ∙ sym c.self.view_is),
      ap (λ m. m.1) c.pass.invariant.0,
      c.self.invariant.0,
      rw (c.seat.invariant.0, ap (λ m. m.0) c.seat.invariant.1, ap (λ m. m.0) c.pass.invariant.0) (ruled.closed_in (state_of c.seat.inside.seat.me.0) c.pass.inside.seat.id (known_of c.pass.inside.seat.me.0) (ap (λ (v : WriterState). v.log.hand) d ∙ c.requires.hand)),
    )
