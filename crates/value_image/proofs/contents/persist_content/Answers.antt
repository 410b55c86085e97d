use Rattle.std.proofs.Common.{◌≡◌, ℕ, if◌then◌else◌, List, ap, sym, ◌∙◌, arith}
use Rattle.std.specs.Int.{w64, cast_unsigned}
use Rattle.std.proofs.lemmas.Grind.{common_steps}
use Rattle.value_image.specs.Rows.{written}
use Rattle.value_image.proofs.SingleTexts.{text_image}
use Rattle.value_image.proofs.SingleScalars.{null_written, bool_written, int_written}
use Rattle.value_image.proofs.contents.persist_content.Goals as goal

pub returns-in-Text-clause-words : goal.returns-in-Text-clause-words
returns-in-Text-clause-words g c =
    rw c.in-Text.is (c.put_text.ensures.words ∙ ap (λ (run : List ℕ). written (g.S.WordsIn.words c.args.seg.now) c.args.at run) (sym (text_image c.in-Text.bytes.now)))

pub returns-in-Null-clause-words : goal.returns-in-Null-clause-words
returns-in-Null-clause-words g c = rw c.in-Null.is (null_written _ _ c.args.at c.put_one.ensures.words)

pub returns-in-Bool-clause-words : goal.returns-in-Bool-clause-words
returns-in-Bool-clause-words g c =
    let word : c.from.result ≡ (if c.in-Bool.truth then 1 else 0) = grind (arith, common_steps) in
    rw c.in-Bool.is (bool_written _ _ c.args.at c.from.result c.in-Bool.truth c.put_one-in-Bool.ensures.words word)

pub returns-in-Int-clause-words : goal.returns-in-Int-clause-words
returns-in-Int-clause-words g c =
    let word : c.cast_unsigned.result ≡ cast_unsigned w64 c.in-Int.number = grind (arith, common_steps) in
    rw c.in-Int.is (int_written _ _ c.args.at c.cast_unsigned.result c.in-Int.number c.put_two.ensures.words word)
