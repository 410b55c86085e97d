use Rattle.std.proofs.Common.{◌≡◌, ℕ, ◌+◌, ◌*◌, [], ◌∷◌, ◌++◌, length, ap, ◌∙◌, arith}
use Rattle.std.specs.List.{flat_map}
use Rattle.php_graph.specs.Size.{offset_of}
use Rattle.value_image.specs.Rows.{written}
use Rattle.value_image.specs.Image.{string_words, property_words}
use Rattle.value_image.proofs.Runs.{may_write-fewer, may_write-along, written-along}
use Rattle.value_image.proofs.Lengths.{length-string_words}
use Rattle.value_image.proofs.write.put_object.Goals as goal

pub put_one-first-requires : goal.put_one-first-requires
put_one-first-requires g c = may_write-fewer _ _ _ _ 1 c.requires.apart (omega arith)

pub put_string-second-requires : goal.put_string-second-requires
put_string-second-requires g c =
    may_write-along _ _ _ _ ((5 + 8 * c.from.result) ∷ []) _ _ _ _ c.requires.apart c.put_one-first.ensures.words c.put_one-first.ensures.beside.aside c.put_one-first.ensures.end (omega arith)

pub put_properties-requires-clause-apart : goal.put_properties-requires-clause-apart
put_properties-requires-clause-apart g c =
    let words = written-along _ _ ((5 + 8 * c.from.result) ∷ []) (string_words c.args.class.now) _ _ _ c.put_one-first.ensures.words c.put_string-second.ensures.words c.put_one-first.ensures.end in
    let len = length-string_words c.args.class.now in
    may_write-along _ _ _ _ ((5 + 8 * c.from.result) ∷ string_words c.args.class.now) _ _ _ _ c.requires.apart words (c.put_string-second.ensures.beside.aside ∙ c.put_one-first.ensures.beside.aside) (omega arith) (omega arith)

pub returns-clause-words : goal.returns-clause-words
returns-clause-words g c =
    let words = written-along _ _ ((5 + 8 * c.from.result) ∷ []) (string_words c.args.class.now) _ _ _ c.put_one-first.ensures.words c.put_string-second.ensures.words c.put_one-first.ensures.end in
    let len = length-string_words c.args.class.now in
    let count : c.from.result ≡ length c.args.props.now = cc in
    let next : c.put_string-second.result ≡ c.args.at + length ((5 + 8 * c.from.result) ∷ string_words c.args.class.now) = omega arith in
    written-along _ _ ((5 + 8 * c.from.result) ∷ string_words c.args.class.now) (flat_map (property_words (offset_of c.args.g.now)) c.args.props.now) _ _ _ words c.put_properties.ensures.words next
    ∙ ap (λ (n : ℕ). written (g.S.WordsIn.words c.args.seg.now) c.args.at (((5 + 8 * n) ∷ string_words c.args.class.now) ++ flat_map (property_words (offset_of c.args.g.now)) c.args.props.now)) count
