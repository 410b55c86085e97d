use Rattle.std.proofs.Common.{◌≡◌, inl, inr, ℕ, ◌-◌, ◌*◌, ◌/◌, ◌%◌, ◌<◌, true, false, not, eqb, sym, ap, ◌∙◌, subst, arith}
use Rattle.std.proofs.lemmas.Bool.{cases_eq, eq-eqb, ne_eqb, le-ltb}
use Rattle.std.proofs.Math.Nat as nat
use Rattle.seg_words.specs.Gaps.{is_whole}
use Rattle.seg_words.specs.Segments.{whole_begins, whole_inner, whole_without}
use Rattle.seg_words.proofs.gaps.begins_segment.Goals as goal

begins : (piece at : ℕ) → 0 < piece → 0 < at → eqb (at % piece) 0 ≡ not (is_whole piece (at - 1) 2)
begins piece at some more = elim (cases_eq (at % piece) 0) [
  | inl is ↦
      let place : at / piece * piece ≡ at = omega (arith, nat.div-add-mod' at piece) in
      let border : is_whole piece (at - 1) 2 ≡ false = subst (λ (x : ℕ). is_whole piece (x - 1) 2 ≡ false) place (whole_begins piece (at / piece) some (omega arith)) in
      eq-eqb (at % piece) 0 is ∙ sym (ap not border)
  | inr other ↦ ne_eqb (at % piece) 0 other ∙ sym (ap not (whole_inner piece at some other))
]

pub returns-then-piece-gt0 : goal.returns-then-piece-gt0
returns-then-piece-gt0 c = begins c.args.piece c.args.at c.if-piece-gt0.true c.requires

pub returns-else-piece-gt0 : goal.returns-else-piece-gt0
returns-else-piece-gt0 c =
    let none : c.args.piece ≡ 0 = omega (arith, c.if-piece-gt0.false) in
    le-ltb 0 c.args.piece (omega arith) ∙ sym (ap not (subst (λ (x : ℕ). is_whole x (c.args.at - 1) 2 ≡ true) (sym none) (whole_without (c.args.at - 1) 2)))
