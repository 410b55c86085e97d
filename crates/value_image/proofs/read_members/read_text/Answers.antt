use Rattle.std.proofs.Common.{ℕ, ◌+◌, ap, ◌∙◌, arith}
use Rattle.std.proofs.lemmas.Grind.{common_steps}
use Rattle.value_image.proofs.ImageParts.{text-inside, text-told, text-bytes, text-end}
use Rattle.value_image.proofs.read_members.read_text.Goals as goal

pub read_bytes-requires-clause-inside : goal.read_bytes-requires-clause-inside
read_bytes-requires-clause-inside g c = text-inside _ _ _ _ c.requires.0 c.requires.1 c.requires.2

pub read_bytes-requires-clause-told : goal.read_bytes-requires-clause-told
read_bytes-requires-clause-told g c = text-told _ _ _ _ c.requires.0 c.requires.1 c.requires.2

pub overflow_add-result-2 : goal.overflow_add-result-2
overflow_add-result-2 g c =
    let inside = text-inside _ _ _ _ c.requires.0 c.requires.1 c.requires.2 in
    omega (arith, g.met.W.WordsIn.short c.args.from.now, c.words_in.ensures)

pub returns-clause-string : goal.returns-clause-string
returns-clause-string g c = λ bytes h e.
    (c.in_ok-bytes.ensures.bytes ∙ text-bytes _ _ _ _ bytes h e, ap (λ (n : ℕ). c.args.at + 1 + n) c.words_in.ensures ∙ text-end _ _ bytes e)

pub overflow_cast-len : goal.overflow_cast-len
overflow_cast-len g c = grind (arith, common_steps)

pub overflow_add-at : goal.overflow_add-at
overflow_add-at g c = grind (arith, common_steps)

pub overflow_add-result : goal.overflow_add-result
overflow_add-result g c = grind (arith, common_steps)
