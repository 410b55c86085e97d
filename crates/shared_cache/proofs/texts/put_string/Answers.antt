use Rattle.std.proofs.Common.{◌≡◌, ◌++◌, List, ℕ, OnOk, codes, ap, subst, ◌∙◌}
use Rattle.std.proofs.lemmas.Result.{on_err_weaker}
use Rattle.notation.specs.Parts.{string_head}
use Rattle.shared_cache.proofs.Strings.{joined, longer}
use Rattle.shared_cache.proofs.texts.put_string.Goals as goal

pub returns-clause-ok : goal.returns-clause-ok
returns-clause-ok g c = λ graph bytes image is len.
    let head = c.in_ok-write_string_head.ensures.ok ∙ ap (λ (n : ℕ). c.args.out.now ++ string_head n) len in
    let before = c.reserve.ensures.items ∙ (c.take-bytes.ensures.bytes ∙ head) in
    let whole = c.from_vec-2.ensures ∙ (c.push_string.ensures.bytes graph bytes image is ∙ ap (λ (b : List ℕ). b ++ bytes) before) in
    subst (λ (text : List ℕ). OnOk c.push.result (c.push.new.self ≡ text)) (ap (λ (b : List ℕ). b ++ codes "\";") whole ∙ joined c.args.out.now bytes) c.push.ensures.ok

pub returns-clause-err : goal.returns-clause-err
returns-clause-err g c =
    let before = c.reserve.ensures.items ∙ (c.take-bytes.ensures.bytes ∙ c.in_ok-write_string_head.ensures.ok) in
    let whole = c.from_vec-2.ensures ∙ (c.push_string.ensures.bytes c.requires.string.0 c.requires.string.1 c.requires.string.2 c.requires.string.3
    ∙ ap (λ (b : List ℕ). b ++ c.requires.string.1) before) in
    on_err_weaker c.push.result (λ same. longer c.args.out.now (string_head c.args.len) c.requires.string.1 c.push.new.self (same ∙ whole)) c.push.ensures.err
