use Rattle.std.proofs.Common.{◌≡◌, length, ap, sym, ◌∙◌, arith}
use Rattle.atomic_table.specs.Seated.{TableId}
use Rattle.pin_table.specs.declared.views.Reader.{Reader}
use Rattle.pin_table.specs.Values.{CopyView}
use Rattle.pin_table.specs.Views.{copying_reader}
use Rattle.pin_table.proofs.RuleSteps as ruled
use Rattle.pin_table.proofs.copying.Copying.word_at.Goals as goal

pub load-requires : goal.load-requires
load-requires c =
    let d : copying_reader c.self.inside.seat.me.0 ≡ c.args.self.now.copy = ap (λ (w : CopyView). w.copy) c.self.view_is in
    let t : c.self.inside.seat.table_id ≡ c.table.inside.table.shared.table_id = ap (λ (w : CopyView). w.table) c.self.view_is ∙ (c.requires.table ∙ sym c.table.view_is) in
    let n = ap (λ (v : Reader). length v.content) d in (
      t,
      omega (arith, c.requires.to, n, c.self.invariant.4, c.self.invariant.7, ap (λ (z : TableId). z.words) t, ap (λ (v : Reader). v.first) d),
      rw (c.self.invariant.0) (ruled.copies _ c.self.inside.seat.id (copying_reader c.self.inside.seat.me.0) c.args.place (omega (arith, c.requires.from, ap (λ (v : Reader). v.first) d)) (omega (arith, c.requires.to, n, ap (λ (v : Reader). v.first) d))),
    )
