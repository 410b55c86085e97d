use Rattle.std.proofs.Common.{ℕ, ◌++◌, List, ap, ◌∙◌, arith}
use Rattle.value_image.proofs.Texts.{string-inside, string-told, string-bytes, same-length}
use Rattle.value_image.proofs.text.push_string.Goals as goal

pub overflow_add-at : goal.overflow_add-at
overflow_add-at g c =
    let inside = string-inside _ (g.W.WordsIn.aside c.args.from.now) _ _ _ _ c.requires.string.2 (g.met.W.WordsIn.short c.args.from.now) c.requires.string.3 c.requires.string.4 in
    omega (arith, inside, g.met.W.WordsIn.short c.args.from.now)

pub push_bytes-requires-clause-inside : goal.push_bytes-requires-clause-inside
push_bytes-requires-clause-inside g c =
    string-inside _ (g.W.WordsIn.aside c.args.from.now) _ _ _ _ c.requires.string.2 (g.met.W.WordsIn.short c.args.from.now) c.requires.string.3 c.requires.string.4

pub push_bytes-requires-clause-told : goal.push_bytes-requires-clause-told
push_bytes-requires-clause-told g c =
    string-told _ (g.W.WordsIn.aside c.args.from.now) _ _ _ _ c.requires.string.2 (g.met.W.WordsIn.short c.args.from.now) c.requires.string.3 c.requires.string.4

pub returns-clause-bytes : goal.returns-clause-bytes
returns-clause-bytes g c = λ graph bytes image is.
    c.push_bytes.ensures.bytes
    ∙ ap (λ (b : List ℕ). c.args.out.items ++ b) (string-bytes _ (g.W.WordsIn.aside c.args.from.now) _ _ _ _ image (g.met.W.WordsIn.short c.args.from.now) is
    (c.requires.string.4 ∙ same-length _ (g.W.WordsIn.aside c.args.from.now) _ _ _ _ _ c.requires.string.2 image (g.met.W.WordsIn.short c.args.from.now) c.requires.string.3 is))
