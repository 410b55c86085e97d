use Rattle.std.proofs.Common.{◌≡◌, ℕ, ◌+◌, ◌-◌, ◌*◌, ◌/◌, ◌<◌, true, sym, ap, ◌∙◌, subst, arith}
use Rattle.std.proofs.Math.Nat as nat
use Rattle.seg_words.specs.Gaps.{is_whole}
use Rattle.seg_words.specs.Segments.{even_times, whole_below, whole_begins, whole_without}
use Rattle.seg_words.proofs.gaps.segment_of.Goals as goal

pub returns-then-piece-eq0-clause-whole : goal.returns-then-piece-eq0-clause-whole
returns-then-piece-eq0-clause-whole c =
    subst (λ (x : ℕ). is_whole x 0 ((c.args.at - 0) + 1) ≡ true) (sym c.if-piece-eq0.true) (whole_without 0 ((c.args.at - 0) + 1))

pub returns-clause-even : goal.returns-clause-even
returns-clause-even c = even_times (c.args.at / c.args.piece) c.args.piece c.requires

below : (piece at : ℕ) → 0 < piece → is_whole piece (at / piece * piece) ((at - at / piece * piece) + 1) ≡ true
below piece at some =
    let q = at / piece in
    let least = nat.div-mul-le_self at piece in
    let most = nat.lt-div-mul-add {a = at} some in
    let same : q * piece / piece ≡ q = nat.mul-div_cancel q some in
    let next : (q * piece / piece + 1) * piece ≡ q * piece + piece = ap (λ (x : ℕ). (x + 1) * piece) same ∙ omega arith in
    whole_below piece (q * piece) ((at - q * piece) + 1) (omega arith)

pub returns-clause-whole : goal.returns-clause-whole
returns-clause-whole c = below c.args.piece c.args.at (omega (arith, c.if-piece-eq0.false))

pub returns-clause-first : goal.returns-clause-first
returns-clause-first c more = whole_begins c.args.piece (c.args.at / c.args.piece) (omega (arith, c.if-piece-eq0.false)) more
