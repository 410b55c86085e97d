use Rattle.std.proofs.Common.{◌≡◌, ◌++◌, ℕ, List, OnOk, subst, sym, ◌∙◌}
use Rattle.value_image.specs.Texts.{IsToldImage, string_of}
use Rattle.shared_cache.proofs.Strings.{counted, string-text}
use Rattle.shared_cache.proofs.texts.write_string.Goals as goal

pub returns-else-is_err-clause-text : goal.returns-else-is_err-clause-text
returns-else-is_err-clause-text g c = λ graph image.
    let kept = c.string_len.ensures.kept in
    let some = counted (string_of graph) c.in_ok-len.len (sym c.in_ok-len.was ∙ c.string_len.ensures.len graph image) in
    let now : IsToldImage (g.W.WordsIn.words c.string_len.new.from) (g.W.WordsIn.aside c.string_len.new.from).windows c.args.at graph = rw (kept.words, kept.aside) image in
    subst (λ (text : List ℕ). OnOk c.put_string-written.result (c.put_string-written.new.out ≡ c.args.out.now ++ text)) (sym (string-text graph some.0 some.1))
    (c.put_string-written.ensures.ok graph some.0 now some.1 some.2)
