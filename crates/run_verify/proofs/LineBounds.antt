-- The begin and the end of a journal and its lines.
use Rattle.std.proofs.Common.{length-drop, ◌≡◌, ◌≢◌, ℕ, zero, suc, ◌+◌, ◌-◌, ◌<◌, ◌≤◌, Bool, true, false, cond, List, [], ◌∷◌, length, take, drop, get_or, Some, None, refl, ap, sym, ◌∙◌, subst, arith, drop-cons, add-one}
use Rattle.std.specs.Prelude.{◌==◌, ◌&&◌, ◌||◌, codes}
use Rattle.std.specs.Str.{bytes_eq}
use Rattle.std.proofs.lemmas.Bool.{eq-eqb, ne_eqb, eqb-true}
use Rattle.std.proofs.lemmas.List.{drop-drop}
use Rattle.std.proofs.Math.ListN.{drop_of_length-le}
use Rattle.run_verify.specs.OutputLines.{begins_line, first_line}
use Rattle.run_verify.specs.Verdicts.{behind, journal_from, journal_part, with_byte, lines_of}

-- ---- the journal

-- whether a line begins behind a byte
begins_next : (o : List ℕ) (at : ℕ) → begins_line o (suc at) ≡ (get_or o at 0 == 10)
begins_next o at =
    let back : suc at - 1 ≡ at = omega arith in
    let some : suc at ≢ 0 = λ z. absurd (omega (arith, z)) in
    ap (λ (k : ℕ). (suc at == 0) || (get_or o k 0 == 10)) back ∙ ap (λ (b : Bool). b || (get_or o at 0 == 10)) (ne_eqb (suc at) 0 some)

-- one byte back
pub one_back : (o : List ℕ) (at next : ℕ) → next ≡ at + 1 → at < length o
    → journal_from (begins_line o at) (drop at o)
    ≡ behind (drop at o) (begins_line o at && bytes_eq (codes "journal\n") (take 8 (drop at o))) (journal_from (begins_line o next) (drop next o))
one_back o at next is within =
    let n : next ≡ suc at = is ∙ add-one at in
    let split : drop at o ≡ get_or o at 0 ∷ drop (suc at) o = drop-cons o at 0 within in
    subst (λ k. journal_from (begins_line o at) (drop at o) ≡ behind (drop at o) (begins_line o at && bytes_eq (codes "journal\n") (take 8 (drop at o))) (journal_from (begins_line o k) (drop k o))) (sym n)
    (ap (journal_from (begins_line o at)) split
    ∙ (ap (λ (l : List ℕ). behind l (begins_line o at && bytes_eq (codes "journal\n") (take 8 l)) (journal_from (get_or o at 0 == 10) (drop (suc at) o))) (sym split)
    ∙ ap (λ (b : Bool). behind (drop at o) (begins_line o at && bytes_eq (codes "journal\n") (take 8 (drop at o))) (journal_from b (drop (suc at) o))) (sym (begins_next o at))))

-- what follows the last line stays that further in front
pub earlier : (o : List ℕ) (at : ℕ) (part : List ℕ) → at ≤ length o → journal_from (begins_line o at) (drop at o) ≡ Some part → journal_part o ≡ Some part
earlier o zero part within is = is
earlier o (suc at) part within is =
    earlier o at part (omega (arith, within))
    (one_back o at (suc at) (sym (add-one at)) (omega (arith, within))
    ∙ ap (behind (drop at o) (begins_line o at && bytes_eq (codes "journal\n") (take 8 (drop at o)))) is)

-- the last line was found here
pub found_here : (o : List ℕ) (at next : ℕ) → next ≡ at + 1 → at < length o → journal_from (begins_line o next) (drop next o) ≡ None
    → (begins_line o at && bytes_eq (codes "journal\n") (take 8 (drop at o))) ≡ true → Some (drop (at + 8) o) ≡ journal_part o
found_here o at next is within none here =
    let one : journal_from (begins_line o at) (drop at o) ≡ Some (drop 8 (drop at o)) =
    one_back o at next is within
    ∙ (ap (behind (drop at o) (begins_line o at && bytes_eq (codes "journal\n") (take 8 (drop at o)))) none
    ∙ ap (λ (b : Bool). cond b (Some (drop 8 (drop at o))) None) here) in
    sym (earlier o at (drop 8 (drop at o)) (omega (arith, within)) one ∙ ap Some (drop-drop 8 at o))

-- it is not here
pub none_here : (o : List ℕ) (at next : ℕ) → next ≡ at + 1 → at < length o → journal_from (begins_line o next) (drop next o) ≡ None
    → (begins_line o at && bytes_eq (codes "journal\n") (take 8 (drop at o))) ≡ false → journal_from (begins_line o at) (drop at o) ≡ None
none_here o at next is within none here =
    one_back o at next is within
    ∙ (ap (behind (drop at o) (begins_line o at && bytes_eq (codes "journal\n") (take 8 (drop at o)))) none
    ∙ ap (λ (b : Bool). cond b (Some (drop 8 (drop at o))) None) here)

-- nothing is behind the end
pub none_behind : (o : List ℕ) (at : ℕ) → length o ≤ at → journal_from (begins_line o at) (drop at o) ≡ None
none_behind o at past = ap (journal_from (begins_line o at)) (drop_of_length-le o past)

-- nowhere
pub nowhere : (o : List ℕ) (at : ℕ) → at ≡ 0 → journal_from (begins_line o at) (drop at o) ≡ None → None ≡ journal_part o
nowhere o at z none = sym (subst (λ (k : ℕ). journal_from (begins_line o k) (drop k o) ≡ None) z none)

-- ---- lines

first_step : (b : ℕ) (bs : List ℕ) (t : Bool) → (b == 10) ≡ t → (0 < length bs → lines_of bs ≡ take (first_line bs) bs ∷ lines_of (drop (first_line bs) bs))
    → cond t ((10 ∷ []) ∷ lines_of bs) (with_byte b (lines_of bs)) ≡ take (cond t 1 (suc (first_line bs))) (b ∷ bs) ∷ lines_of (drop (cond t 1 (suc (first_line bs))) (b ∷ bs))
first_step b bs true e later = ap (λ (x : ℕ). (x ∷ []) ∷ lines_of bs) (sym (eqb-true b 10 e))
first_step b [] false e later = refl
first_step b (c ∷ cs) false e later = ap (with_byte b) (later (omega arith))

-- a text begins with its first line
pub lines_first : (bytes : List ℕ) → 0 < length bytes → lines_of bytes ≡ take (first_line bytes) bytes ∷ lines_of (drop (first_line bytes) bytes)
lines_first [] some = absurd (omega (arith, some))
lines_first (b ∷ bs) some = first_step b bs (b == 10) refl (lines_first bs)

-- the line ends with this byte
pub line_stops : (o : List ℕ) (end : ℕ) → end < length o → get_or o end 0 ≡ 10 → first_line (drop end o) ≡ 1
line_stops o end within is =
    ap first_line (drop-cons o end 0 within) ∙ ap (λ (t : Bool). cond t 1 (suc (first_line (drop (suc end) o)))) (eq-eqb (get_or o end 0) 10 is)

-- it goes on
pub line_goes_on : (o : List ℕ) (end next : ℕ) → next ≡ end + 1 → end < length o → get_or o end 0 ≢ 10 → first_line (drop end o) ≡ suc (first_line (drop next o))
line_goes_on o end next n within is =
    ap first_line (drop-cons o end 0 within)
    ∙ (ap (λ (t : Bool). cond t 1 (suc (first_line (drop (suc end) o)))) (ne_eqb (get_or o end 0) 10 is)
    ∙ ap (λ (k : ℕ). suc (first_line (drop k o))) (sym (n ∙ add-one end)))

-- the first line from here on is so long
pub line_is : (o : List ℕ) (at end : ℕ) → at < length o → at ≤ end → end - at ≡ first_line (drop at o)
    → lines_of (drop at o) ≡ take (end - at) (drop at o) ∷ lines_of (drop end o)
line_is o at end within later is =
    let some : 0 < length (drop at o) = omega (arith, within, length-drop at o) in
    let there : at + (end - at) ≡ end = omega (arith, later) in
    subst (λ (n : ℕ). lines_of (drop at o) ≡ take n (drop at o) ∷ lines_of (drop n (drop at o))) (sym is) (lines_first (drop at o) some)
    ∙ ap (λ (l : List ℕ). take (end - at) (drop at o) ∷ lines_of l) (drop-drop (end - at) at o ∙ ap (λ (k : ℕ). drop k o) there)

-- no line is left
pub none_left : (o : List ℕ) (end : ℕ) → length o ≤ end → first_line (drop end o) ≡ 0
none_left o end past = ap first_line (drop_of_length-le o past)
