-- Whether a line is the one of a mark.
use Rattle.std.proofs.Common.{◌≡◌, ◌≢◌, ℕ, ◌≤◌, Bool, true, false, List, [], ◌++◌, length, Some, None, refl, ap, sym, ◌∙◌, arith}
use Rattle.std.specs.Prelude.{◌==◌}
use Rattle.std.specs.Str.{bytes_eq}
use Rattle.std.proofs.lemmas.Bool.{eqb-true, eqb-false}
use Rattle.std.proofs.lemmas.List.{append-nil}
use Rattle.std.proofs.Math.ListN.{drop_of_length-le}
use Rattle.std.proofs.lemmas.Slice.Eq.{bytes_eq-Decides}
use Rattle.run_verify.specs.TextPieces.{HasPiece, DiffersAt}
use Rattle.run_verify.specs.Verdicts.{first_difference}
use Rattle.run_verify.proofs.FirstDifferences.{front_none}

-- texts that are one are equal byte by byte
same_bytes : (a b : List ℕ) → a ≡ b → bytes_eq a b ≡ true
same_bytes a b is = (bytes_eq-Decides a b).1 is

-- those that are not one are not
other_bytes : (a b : List ℕ) → a ≢ b → bytes_eq a b ≡ false
other_bytes a b isnt = by (bytes_eq a b) refl
  where
    by : (t : Bool) → bytes_eq a b ≡ t → t ≡ false
    by false e = refl
    by true e = absurd (isnt ((bytes_eq-Decides a b).0 e))

-- the piece stands in the line from its front on: it is the line where it ends at its end
pub whole_piece : (line piece : List ℕ) (to : ℕ) → HasPiece line 0 piece to → (to == length line) ≡ bytes_eq piece line
whole_piece line piece to h = by (to == length line) refl
  where
    by : (t : Bool) → (to == length line) ≡ t → t ≡ bytes_eq piece line
    by true e =
        let end = eqb-true to (length line) e in
        let past : length line ≤ to = omega (arith, end) in
        sym (same_bytes piece line (sym (append-nil piece) ∙ (ap (λ l. piece ++ l) (sym (drop_of_length-le line past)) ∙ sym h.stands)))
    by false e =
        let more = eqb-false to (length line) e in
        sym (other_bytes piece line (λ is. absurd (omega (arith, more, h.end, ap length is))))

pub same_none : (l : List ℕ) → first_difference l l ≡ None
same_none l = ap (λ (m : List ℕ). first_difference m m) (sym (append-nil l)) ∙ front_none l [] [] refl

-- it differs from the line somewhere
pub no_piece : (line piece : List ℕ) (place : ℕ) → DiffersAt line 0 piece place → false ≡ bytes_eq piece line
no_piece line piece place d = sym (other_bytes piece line differs)
  where
    differs : piece ≢ line
    differs is =
        let some : first_difference line (piece ++ []) ≡ Some d.from = d.differs [] in
        let none : first_difference line (piece ++ []) ≡ None = ap (first_difference line) (append-nil piece ∙ is) ∙ same_none line in
        let wrong : Some d.from ≡ None = sym some ∙ none in
        absurd cc
