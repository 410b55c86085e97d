use Rattle.std.proofs.Common.{ℕ, ◌+◌, List, ap, sym, ◌∙◌, arith}
use Rattle.std.proofs.lemmas.Grind.{common_steps}
use Rattle.std.proofs.lemmas.Result.{err_from_is_err_and}
use Rattle.php_graph.specs.declared.key.Key.{Key}
use Rattle.php_graph.specs.declared.key.Key.TheVariants.{Str}
use Rattle.php_graph.specs.Size.{key_cells}
use Rattle.value_image.proofs.ImageParts.{key-first, int-key-at, string-key-at}
use Rattle.value_image.proofs.read_members.read_key.Goals as goal

pub load-tag-requires : goal.load-tag-requires
load-tag-requires g c = (key-first _ _ _ c.requires.0 c.requires.1).0

pub overflow_add-at : goal.overflow_add-at
overflow_add-at g c = omega (arith, (key-first _ _ _ c.requires.0 c.requires.1).0, g.met.W.WordsIn.short c.args.from.now)

pub load-number-requires : goal.load-number-requires
load-number-requires g c =
    let found = int-key-at _ _ _ _ c.requires.0 _ _ c.requires.1 c.load-tag.ensures.word c.if-tag-eq-INT.true c.load-tag.ensures.words c.load-tag.ensures.aside in
    found.3

pub overflow_add-result : goal.overflow_add-result
overflow_add-result g c =
    let found = int-key-at _ _ _ _ c.requires.0 _ _ c.requires.1 c.load-tag.ensures.word c.if-tag-eq-INT.true c.load-tag.ensures.words c.load-tag.ensures.aside in
    omega (arith, found.3, g.met.W.WordsIn.short c.load-tag.new.self)

pub returns-then-tag-eq-INT-clause-key : goal.returns-then-tag-eq-INT-clause-key
returns-then-tag-eq-INT-clause-key c = grind (arith, common_steps)

pub read_text-requires : goal.read_text-requires
read_text-requires g c =
    let found = string-key-at _ _ _ _ c.requires.0 _ _ c.requires.1 c.load-tag.ensures.word c.if-tag-eq-INT.false c.load-tag.ensures.words c.load-tag.ensures.aside in
    (found.0, found.2, found.3)

pub returns-in_err-bytes-clause-key : goal.returns-in_err-bytes-clause-key
returns-in_err-bytes-clause-key g c = λ key h. rw (err_from_is_err_and c.from_residual.result c.from_residual.ensures.1).1 tt

pub returns-clause-key : goal.returns-clause-key
returns-clause-key g c = λ key h.
    let found = string-key-at _ _ _ _ key _ _ h c.load-tag.ensures.word c.if-tag-eq-INT.false c.load-tag.ensures.words c.load-tag.ensures.aside in
    let got = c.in_ok-bytes.ensures.string found.0 found.2 found.3 in
    (ap (λ (bytes : List ℕ). Str bytes) got.0 ∙ sym found.1, got.1 ∙ ap (λ (k : Key). c.args.at + key_cells k) (sym found.1))
