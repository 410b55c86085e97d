use Rattle.std.proofs.Common.{ap, sym, ◌∙◌}
use Rattle.pin_table.specs.Values.{WriterView}
use Rattle.pin_table.specs.Views.{state_of}
use Rattle.pin_table.proofs.RuleSteps as ruled
use Rattle.pin_table.proofs.table.PinTable.look.Goals as goal

pub load-requires : goal.load-requires
load-requires c = (
  ap (λ (w : WriterView). w.table) c.seat.view_is ∙ (c.requires.table ∙ sym c.self.view_is),
  c.self.invariant.0,
  rw (c.seat.invariant.0, c.seat.invariant.1) (ruled.looks _ (state_of c.seat.inside.seat.me.0) 0),
)
