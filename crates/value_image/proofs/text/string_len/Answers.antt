use Rattle.std.proofs.Common.{◌≡◌, ℕ, ◌<◌, ◌^◌, ◌/◌, List, length, Some, ap, sym, ◌∙◌, arith}
use Rattle.php_graph.specs.Size.{image_length}
use Rattle.std.specs.Option.{option_map}
use Rattle.value_image.proofs.Texts.{told-inside, told-here, tag-string, tag-other}
use Rattle.value_image.proofs.text.string_len.Goals as goal

pub load-tag-requires : goal.load-tag-requires
load-tag-requires g c = (told-inside _ _ _ c.requires.image.0 c.requires.image.1).0

pub overflow_cast-result : goal.overflow_cast-result
overflow_cast-result g c =
    let graph = c.requires.image.0 in
    let inside = (told-inside _ _ _ graph c.requires.image.1).1 in
    let short : image_length graph < 2 ^ 32 = omega (arith, inside, g.met.W.WordsIn.short c.args.from.now) in
    let word = c.load-tag.ensures.word (told-here _ _ _ graph c.requires.image.1) in
    let string = tag-string _ (g.W.WordsIn.aside c.args.from.now) c.args.at _ graph c.requires.image.1 short word c.if-tag-eq-STR.true in
    omega (arith, string.2, string.3)

pub returns-then-tag-eq-STR-clause-len : goal.returns-then-tag-eq-STR-clause-len
returns-then-tag-eq-STR-clause-len g c = λ graph image.
    let inside = (told-inside _ _ _ graph image).1 in
    let short : image_length graph < 2 ^ 32 = omega (arith, inside, g.met.W.WordsIn.short c.args.from.now) in
    let word = c.load-tag.ensures.word (told-here _ _ _ graph image) in
    let string = tag-string _ (g.W.WordsIn.aside c.args.from.now) c.args.at _ graph image short word c.if-tag-eq-STR.true in
    let same : c.load-tag.result / 8 ≡ length string.0 = omega (arith, string.2) in
    ap (λ (n : ℕ). Some n) same ∙ sym (ap (option_map (λ (bytes : List ℕ). length bytes)) string.1)

pub returns-else-tag-eq-STR-clause-len : goal.returns-else-tag-eq-STR-clause-len
returns-else-tag-eq-STR-clause-len g c = λ graph image.
    let inside = (told-inside _ _ _ graph image).1 in
    let short : image_length graph < 2 ^ 32 = omega (arith, inside, g.met.W.WordsIn.short c.args.from.now) in
    let word = c.load-tag.ensures.word (told-here _ _ _ graph image) in
    let none = tag-other _ (g.W.WordsIn.aside c.args.from.now) c.args.at _ graph image short word c.if-tag-eq-STR.false in
    sym (ap (option_map (λ (bytes : List ℕ). length bytes)) none)
