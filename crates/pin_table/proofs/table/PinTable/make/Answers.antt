use Rattle.std.proofs.Common.{◌≡◌, ◌<◌, length, ap, sym, ◌∙◌, subst}
use Rattle.pin_table.specs.declared.views.WriterState.{WriterState}
use Rattle.pin_table.specs.Values.{WriterView}
use Rattle.pin_table.specs.Views.{state_of}
use Rattle.pin_table.proofs.RuleSteps as ruled
use Rattle.pin_table.proofs.table.PinTable.make.Goals as goal

pub split_seat-seat-requires : goal.split_seat-seat-requires
split_seat-seat-requires c =
    let d : state_of c.seat.inside.seat.me.0 ≡ c.args.seat.now.state = ap (λ (w : WriterView). w.state) c.seat.view_is in (
      ap (λ (w : WriterView). w.table) c.seat.view_is ∙ (c.requires.table ∙ sym c.self.view_is),
      c.self.invariant.0,
      rw (c.seat.invariant.0, ap (λ m. m.0) c.seat.invariant.1) (ruled.makes (state_of c.seat.inside.seat.me.0) (subst (λ (v : WriterState). v.log.made < length v.log.budgets) (sym d) c.requires.room)),
    )
