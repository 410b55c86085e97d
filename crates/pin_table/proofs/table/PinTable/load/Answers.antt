use Rattle.std.proofs.Common.{◌≡◌, length, slice_index, ap, sym, ◌∙◌, subst, arith}
use Rattle.atomic_table.specs.Seated.{TableId}
use Rattle.seg_words.specs.Blocks.{IsTold}
use Rattle.pin_table.specs.declared.views.WriterState.{WriterState}
use Rattle.pin_table.specs.Values.{WriterView}
use Rattle.pin_table.specs.Views.{state_of}
use Rattle.pin_table.proofs.WindowLists.{told_with}
use Rattle.pin_table.proofs.RuleSteps as ruled
use Rattle.pin_table.proofs.table.PinTable.load.Goals as goal

pub load-requires : goal.load-requires
load-requires c =
    let d : state_of c.seat.inside.seat.me.0 ≡ c.args.seat.now.state = ap (λ (w : WriterView). w.state) c.seat.view_is in
    let t : c.seat.inside.seat.table_id ≡ c.self.inside.table.shared.table_id = ap (λ (w : WriterView). w.table) c.seat.view_is ∙ (c.requires.table ∙ sym c.self.view_is) in (
      t,
      omega (arith, c.requires.place, ap (λ (v : WriterState). length v.words) d, c.seat.invariant.2, ap (λ (z : TableId). z.words) t),
      rw (c.seat.invariant.0, c.seat.invariant.1) (ruled.reads _ (state_of c.seat.inside.seat.me.0) c.args.word),
    )

pub returns-clause-word : goal.returns-clause-word
returns-clause-word c = λ told.
    let d : state_of c.seat.inside.seat.me.0 ≡ c.args.seat.now.state = ap (λ (w : WriterView). w.state) c.seat.view_is in
    let with_pinning = told_with (state_of c.seat.inside.seat.me.0).pinning (state_of c.seat.inside.seat.me.0).windows c.args.word c.seat.invariant.6 (subst (λ (v : WriterState). IsTold v.windows c.args.word) (sym d) told) in
    sym (c.load.ensures.2.1 with_pinning) ∙ ap (λ (v : WriterState). slice_index v.words c.args.word) d
