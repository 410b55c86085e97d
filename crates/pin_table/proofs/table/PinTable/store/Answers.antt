use Rattle.std.proofs.Common.{◌≡◌, length, ap, sym, ◌∙◌, subst, arith}
use Rattle.atomic_table.specs.Seated.{TableId}
use Rattle.seg_words.specs.Blocks.{MayStore}
use Rattle.pin_table.specs.declared.views.WriterState.{WriterState}
use Rattle.pin_table.specs.Values.{WriterView}
use Rattle.pin_table.specs.Views.{state_of}
use Rattle.pin_table.proofs.WriterStates.{Outside, outside_from}
use Rattle.pin_table.proofs.RuleSteps as ruled
use Rattle.pin_table.proofs.table.PinTable.store.Goals as goal

pub store-requires : goal.store-requires
store-requires c =
    let d : state_of c.seat.inside.seat.me.0 ≡ c.args.seat.now.state = ap (λ (w : WriterView). w.state) c.seat.view_is in
    let t : c.seat.inside.seat.table_id ≡ c.self.inside.table.shared.table_id = ap (λ (w : WriterView). w.table) c.seat.view_is ∙ (c.requires.table ∙ sym c.self.view_is) in
    let out : Outside (state_of c.seat.inside.seat.me.0) c.args.word = outside_from (state_of c.seat.inside.seat.me.0) c.args.word c.seat.invariant.6 (subst (λ (v : WriterState). MayStore v.words v.windows c.args.word) (sym d) c.requires.apart) in (
      t,
      omega (arith, c.requires.place, ap (λ (v : WriterState). length v.words) d, c.seat.invariant.2, ap (λ (z : TableId). z.words) t),
      rw (c.seat.invariant.0, c.seat.invariant.1) (ruled.writes _ (state_of c.seat.inside.seat.me.0) c.args.word c.args.new (omega (arith, c.requires.place, ap (λ (v : WriterState). length v.words) d)) out),
    )
