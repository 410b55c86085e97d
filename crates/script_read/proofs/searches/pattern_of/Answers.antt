use Rattle.std.proofs.Common.{ℕ, List, sym, ap, subst, ◌∙◌}
use Rattle.std.specs.Str.{IsUtf8}
use Rattle.script_read.specs.Arguments.{slashed}
use Rattle.script_read.proofs.Slashes.{made_of, not_utf8, in_utf8}
use Rattle.script_read.proofs.searches.pattern_of.Goals as goal

pub returns-in_default : goal.returns-in_default
returns-in_default c =
    not_utf8 c.args.text.now (λ utf8. c.in_default.ensures.cases.0 (subst IsUtf8 (sym c.as_slice-text.ensures.bytes) utf8))

pub returns : goal.returns
returns c =
    let bytes = c.as_slice-text.ensures.bytes in
    let made = ap (λ (t : List ℕ). made_of t c.in-Some.fold) c.in_ok-of.ensures in
    in_utf8 c.args.text.now (made_of c.in_ok-of.field-0 c.in-Some.fold) (subst IsUtf8 bytes c.in-Ok.ensures.cases.1)
    (made ∙ (c.in-Some.ensures.is ∙ ap slashed bytes))
