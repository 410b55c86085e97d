use Rattle.std.proofs.Common.{◌≡◌, ◌∙◌, ℕ, ◌+◌, ◌/◌, ◌%◌, List, [], ◌∷◌, ◌++◌, ap, sym, subst, arith}
use Rattle.std.specs.Prelude.{OnOk}
use Rattle.std.specs.Fmt.{decimal}
use Rattle.std.proofs.lemmas.Fmt.{decimal_digit}
use Rattle.notation.proofs.ShortDecimals.{two_digits, three_digits}
use Rattle.notation.proofs.pieces.write_string_head.Goals as goal

pub returns-then-count-lt10-clause-ok : goal.returns-then-count-lt10-clause-ok
returns-then-count-lt10-clause-ok c =
    let digits : c.digit.result ∷ [] ≡ decimal c.args.count = ap (λ (d : ℕ). d ∷ []) c.digit.ensures ∙ sym (decimal_digit c.args.count (omega (arith, c.if-count-lt10.true))) in
    subst (λ (ds : List ℕ). OnOk c.push.result (c.push.new.self ≡ c.args.out.now ++ (115 ∷ (58 ∷ (ds ++ (58 ∷ (34 ∷ []))))))) digits c.push.ensures.ok

pub returns-then-count-lt100-clause-ok : goal.returns-then-count-lt100-clause-ok
returns-then-count-lt100-clause-ok c =
    let digits : c.digit-tens.result ∷ (c.digit-ones.result ∷ []) ≡ decimal c.args.count =
    ap (λ (d : ℕ). d ∷ (c.digit-ones.result ∷ [])) c.digit-tens.ensures
    ∙ ap (λ (d : ℕ). (48 + c.args.count / 10) ∷ (d ∷ [])) c.digit-ones.ensures
    ∙ sym (two_digits c.args.count (omega (arith, c.if-count-lt10.false)) (omega (arith, c.if-count-lt100.true))) in
    subst (λ (ds : List ℕ). OnOk c.push-then-count-lt100.result (c.push-then-count-lt100.new.self ≡ c.args.out.now ++ (115 ∷ (58 ∷ (ds ++ (58 ∷ (34 ∷ []))))))) digits c.push-then-count-lt100.ensures.ok

pub returns-then-count-lt1000-clause-ok : goal.returns-then-count-lt1000-clause-ok
returns-then-count-lt1000-clause-ok c =
    let first = c.digit-then-count-lt1000 in
    let tens = c.digit-tens-then-count-lt1000 in
    let ones = c.digit-ones-then-count-lt1000 in
    let digits : first.result ∷ (tens.result ∷ (ones.result ∷ [])) ≡ decimal c.args.count =
    ap (λ (d : ℕ). d ∷ (tens.result ∷ (ones.result ∷ []))) first.ensures
    ∙ ap (λ (d : ℕ). (48 + c.args.count / 100) ∷ (d ∷ (ones.result ∷ []))) tens.ensures
    ∙ ap (λ (d : ℕ). (48 + c.args.count / 100) ∷ ((48 + c.args.count / 10 % 10) ∷ (d ∷ []))) ones.ensures
    ∙ sym (three_digits c.args.count (omega (arith, c.if-count-lt100.false)) (omega (arith, c.if-count-lt1000.true))) in
    subst (λ (ds : List ℕ). OnOk c.push-then-count-lt1000.result (c.push-then-count-lt1000.new.self ≡ c.args.out.now ++ (115 ∷ (58 ∷ (ds ++ (58 ∷ (34 ∷ []))))))) digits c.push-then-count-lt1000.ensures.ok
