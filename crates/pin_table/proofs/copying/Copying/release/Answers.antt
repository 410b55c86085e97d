use Rattle.std.proofs.Common.{◌≡◌, ap, sym, ◌∙◌, arith}
use Rattle.atomic_table.specs.Seated.{TableId}
use Rattle.pin_table.specs.Values.{CopyView}
use Rattle.pin_table.specs.Views.{copying_reader}
use Rattle.pin_table.proofs.RuleSteps as ruled
use Rattle.pin_table.proofs.copying.Copying.release.Goals as goal

pub fetch_sub-requires : goal.fetch_sub-requires
fetch_sub-requires c =
    let t : c.self.inside.seat.table_id ≡ c.table.inside.table.shared.table_id = ap (λ (w : CopyView). w.table) c.self.view_is ∙ (c.requires.table ∙ sym c.table.view_is) in (
      t,
      omega (arith, c.self.invariant.5, c.self.invariant.4, ap (λ (z : TableId). z.words) t),
      rw (c.self.invariant.0, c.self.invariant.3) (ruled.releases _ c.self.inside.seat.id (copying_reader c.self.inside.seat.me.0)),
    )
