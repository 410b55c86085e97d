use Rattle.std.proofs.Common.{◌∙◌, ◌++◌, ◌∷◌, [], ap, sym, arith}
use Rattle.std.specs.Prelude.{vec_len}
use Rattle.late_words.specs.Zeros.{with_zeros, length_with}
use Rattle.late_words.proofs.LateStores.{stored_behind}
use Rattle.late_words.proofs.late_words.LateWordsSegment.store.Goals as goal

pub returns-clause-words : goal.returns-clause-words
returns-clause-words c =
    let s = c.args.self.now in
    ap (with_zeros c.push_reserved.new.self.items) c.pad.ensures.len
    ∙ ap (λ l. with_zeros l s.len) (c.push_reserved.ensures.items ∙ ap (λ l. l ++ c.args.w ∷ []) c.pad.ensures.items)
    ∙ stored_behind s.written.items (vec_len s.written) s.len c.args.i c.args.w (sym s.written.ok.0) (omega (arith, c.if-at-len.false, c.len.ensures)) (omega (arith, c.requires.place, length_with s.written.items s.len s.within))
