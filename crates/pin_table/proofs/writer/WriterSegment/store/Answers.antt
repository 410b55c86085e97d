use Rattle.std.proofs.Common.{◌≡◌, slice_index, slice_set, ap, sym, ◌∙◌, arith}
use Rattle.std.proofs.lemmas.Grind.{common_steps}
use Rattle.std.proofs.lemmas.Bool.Decides.{nat_tests}
use Rattle.pin_table.specs.declared.views.WriterState.{WriterState}
use Rattle.pin_table.specs.Values.{WriterView}
use Rattle.pin_table.proofs.WindowLists.{set_same, told_apart}
use Rattle.pin_table.proofs.writer.WriterSegment.store.Goals as goal

-- a word that is there already is not stored
pub returns-else-load-w-clause-words : goal.returns-else-load-w-clause-words
returns-else-load-w-clause-words c =
    let d : WriterState = c.args.self.now.seat.now.state in
    let found : c.load.result ≡ slice_index d.words c.args.i = c.load.ensures.word (told_apart d.words d.windows c.args.i c.requires.apart) in
    let there : slice_index d.words c.args.i ≡ c.args.w = sym found ∙ grind (arith, c.if-load-w.false, nat_tests) in
    ap (λ (w : WriterView). w.state.words) c.load.ensures.seat ∙ (sym (set_same d.words c.args.i 0) ∙ ap (slice_set d.words c.args.i) there)

pub store-requires-clause-apart : goal.store-requires-clause-apart
store-requires-clause-apart c = grind (arith, common_steps)

pub returns-then-load-w-clause-words : goal.returns-then-load-w-clause-words
returns-then-load-w-clause-words c = grind (arith, common_steps)
