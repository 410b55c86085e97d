-- What was written of a part is read again.
use Rattle.std.proofs.Common.{◌≡◌, ℕ, zero, suc, ◌+◌, ◌^◌, ◌<◌, Bool, true, false, cond, ◌&&◌, eqb, ltb, List, [], ◌∷◌, ◌++◌, length, get_or, take, drop, Option, Some, None, Result, Ok, ℤ, pos, negsuc, FitsSigned, w64, refl, sym, ap, ◌∙◌, append_assoc, arith}
use Rattle.std.specs.Prelude.{slice_index}
use Rattle.std.specs.Fmt.{decimal, signed_decimal}
use Rattle.std.specs.Int.{IsInRange}
use Rattle.std.proofs.lemmas.Fmt.{decimal_digit, decimal_is_IsNumeral}
use Rattle.std.proofs.lemmas.Str.Parse.{digit_at}
use Rattle.std.proofs.lemmas.Bool.{lt-ltb}
use Rattle.std.proofs.lemmas.List.{get_or_append_left, take_at, drop_at, length-append}
use Rattle.std.proofs.Math.Seq.{get_or-append_seam}
use Rattle.std.proofs.lemmas.List.Sums.{position_or_len_is}
use Rattle.php_graph.specs.Numbers.{int_of_text}
use Rattle.notation.specs.declared.fault.Fault.{Fault}
use Rattle.notation.specs.declared.fault.Reason.TheVariants.{Length}
use Rattle.notation.specs.Marks.{◌>>=◌, fail, mark_at, ends_number, number_len, found, number_at, as_natural, as_truth, number_as, natural_at, quoted_at, sized_at, string_at, integer_at, count_at}

-- an integer is what its text gives
abbrev pub ReadBack : Type 0
ReadBack = (n : ℤ) → FitsSigned w64 n → int_of_text (signed_decimal n) ≡ Some n

-- ---- numbers

in_number : (b : ℕ) → IsInRange 48 57 b → ends_number b ≡ false
in_number b h = grind (arith, h)

decimal_bytes : (n : ℕ) → n < 2 ^ 64 → (k : ℕ) → k < length (decimal n) → ends_number (get_or (decimal n) k 0) ≡ false
decimal_bytes n lt k within = in_number _ (digit_at (decimal n) k (decimal_is_IsNumeral n lt).0.1 within)

signed_bytes : (z : ℤ) → FitsSigned w64 z → (k : ℕ) → k < length (signed_decimal z) → ends_number (get_or (signed_decimal z) k 0) ≡ false
signed_bytes (pos n) h k within = decimal_bytes n (omega (arith, h.sfits)) k within
signed_bytes (negsuc n) h zero within = refl
signed_bytes (negsuc n) h (suc k) within = decimal_bytes (suc n) (omega (arith, h.sfits)) k (omega arith)

run_again : (text : List ℕ) (b : ℕ) (rest : List ℕ) → ((k : ℕ) → k < length text → ends_number (get_or text k 0) ≡ false) → ends_number b ≡ true → number_len (text ++ b ∷ rest) ≡ length text
run_again text b rest inner ends =
    position_or_len_is ends_number (text ++ b ∷ rest) (length text) 0 (omega (arith, length-append text (b ∷ rest)))
    (λ k lt. rw (get_or_append_left text (b ∷ rest) 0 k lt) (inner k lt))
    (λ _. rw (get_or-append_seam text b rest 0) ends)

number_of : (bytes : List ℕ) → 0 < length bytes → number_at bytes ≡ found (int_of_text (take (number_len bytes) bytes)) (drop (number_len bytes) bytes) bytes
unfolding number_at
number_of [] some = absurd (omega arith)
number_of (b ∷ rest) some = refl

abbrev given : ℤ × List ℕ → Result (ℤ × List ℕ) Fault
given p = Ok p

pub number_read : (law : ReadBack) (z : ℤ) (b : ℕ) (rest : List ℕ) → FitsSigned w64 z → ends_number b ≡ true → number_at (signed_decimal z ++ b ∷ rest) ≡ Ok (z, b ∷ rest)
number_read law z b rest h ends =
    let text = signed_decimal z in
    let bytes = text ++ b ∷ rest in
    let some : 0 < length bytes = omega (arith, length-append text (b ∷ rest)) in
    let len : number_len bytes ≡ length text = run_again text b rest (signed_bytes z h) ends in
    let run : take (number_len bytes) bytes ≡ text = ap (λ (k : ℕ). take k bytes) len ∙ take_at text (b ∷ rest) (length text) refl in
    let after : drop (number_len bytes) bytes ≡ b ∷ rest = ap (λ (k : ℕ). drop k bytes) len ∙ drop_at text (b ∷ rest) (length text) refl in
    number_of bytes some ∙ ap (λ (t : List ℕ). found (int_of_text t) (drop (number_len bytes) bytes) bytes) run ∙ ap (λ (o : Option ℤ). found o (drop (number_len bytes) bytes) bytes) (law z h) ∙ ap (λ (t : List ℕ). given (z, t)) after

pub as_read : {A : Type 0} (law : ReadBack) (choose : ℤ → Option A) (z : ℤ) (x : A) (b : ℕ) (rest : List ℕ) → FitsSigned w64 z → ends_number b ≡ true → choose z ≡ Some x → number_as choose (signed_decimal z ++ b ∷ rest) ≡ Ok (x, b ∷ rest)
as_read law choose z x b rest h ends e =
    let bytes = signed_decimal z ++ b ∷ rest in
    ap (λ (r : Result (ℤ × List ℕ) Fault). r >>= λ n. found (choose n.0) n.1 bytes) (number_read law z b rest h ends) ∙ ap (λ (o : Option _). found o (b ∷ rest) bytes) e

pub natural_read : (law : ReadBack) (n : ℕ) (b : ℕ) (rest : List ℕ) → n < 2 ^ 32 → ends_number b ≡ true → natural_at (decimal n ++ b ∷ rest) ≡ Ok (n, b ∷ rest)
natural_read law n b rest lt ends = as_read law as_natural (pos n) n b rest (record { sfits = omega arith }) ends (ap (λ (t : Bool). cond t (Some n) None) (lt-ltb n (2 ^ 32) lt))

pub truth_read : (law : ReadBack) (t : Bool) (rest : List ℕ) → number_as as_truth (cond t (49 ∷ []) (48 ∷ []) ++ 59 ∷ rest) ≡ Ok (t, 59 ∷ rest)
truth_read law true rest = ap (λ (l : List ℕ). number_as as_truth (l ++ 59 ∷ rest)) (sym (decimal_digit 1 (omega arith))) ∙ as_read law as_truth (pos 1) true 59 rest (record { sfits = omega arith }) refl refl
truth_read law false rest = ap (λ (l : List ℕ). number_as as_truth (l ++ 59 ∷ rest)) (sym (decimal_digit 0 (omega arith))) ∙ as_read law as_truth (pos 0) false 59 rest (record { sfits = omega arith }) refl refl

-- ---- byte strings

drop_past : (text : List ℕ) (b : ℕ) (rest : List ℕ) → drop (length text + 1) (text ++ b ∷ rest) ≡ rest
drop_past text b rest = ap (drop (length text + 1)) (sym (append_assoc text (b ∷ []) rest)) ∙ drop_at (text ++ b ∷ []) rest (length text + 1) (omega (arith, length-append text (b ∷ [])))

abbrev both : List ℕ × List ℕ → Result (List ℕ × List ℕ) Fault
both p = Ok p

quoted_read : (text number rest : List ℕ) → quoted_at (length text) number (text ++ 34 ∷ rest) ≡ Ok (text, rest)
quoted_read text number rest =
    let bytes = text ++ 34 ∷ rest in
    let n = length text in
    let short : ltb n (length bytes) ≡ true = lt-ltb n (length bytes) (omega (arith, length-append text (34 ∷ rest))) in
    let quote : eqb (slice_index bytes n) 34 ≡ true = ap (λ (b : ℕ). eqb b 34) (get_or-append_seam text 34 rest 0) in
    ap (λ (t : Bool). cond (t && eqb (slice_index bytes n) 34) (Ok (take n bytes, drop (n + 1) bytes)) (fail Length number)) short ∙ ap (λ (t : Bool). cond t (Ok (take n bytes, drop (n + 1) bytes)) (fail Length number)) quote
    ∙ ap (λ (t : List ℕ). both (t, drop (n + 1) bytes)) (take_at text (34 ∷ rest) n refl) ∙ ap (λ (t : List ℕ). both (text, t)) (drop_past text 34 rest)

pub sized_read : (law : ReadBack) (text rest : List ℕ) → length text < 2 ^ 32 → sized_at (58 ∷ (decimal (length text) ++ 58 ∷ 34 ∷ (text ++ 34 ∷ rest))) ≡ Ok (text, rest)
unfolding sized_at
sized_read law text rest short =
    let number = decimal (length text) ++ 58 ∷ 34 ∷ (text ++ 34 ∷ rest) in
    ap (λ (r : Result (ℕ × List ℕ) Fault). r >>= λ n. mark_at 58 n.1 >>= λ opening. mark_at 34 opening >>= λ inner. quoted_at n.0 number inner) (natural_read law (length text) 58 (34 ∷ (text ++ 34 ∷ rest)) short refl) ∙ quoted_read text number rest

pub string_read : (law : ReadBack) (text rest : List ℕ) → length text < 2 ^ 32 → string_at (58 ∷ (decimal (length text) ++ 58 ∷ 34 ∷ (text ++ 34 ∷ 59 ∷ rest))) ≡ Ok (text, rest)
unfolding string_at
string_read law text rest short = ap (λ (r : Result (List ℕ × List ℕ) Fault). r >>= λ t. mark_at 59 t.1 >>= λ after. Ok (t.0, after)) (sized_read law text (59 ∷ rest) short)

pub integer_read : (law : ReadBack) (n : ℤ) (rest : List ℕ) → FitsSigned w64 n → integer_at (58 ∷ (signed_decimal n ++ 59 ∷ rest)) ≡ Ok (n, rest)
unfolding integer_at
integer_read law n rest h = ap (λ (r : Result (ℤ × List ℕ) Fault). r >>= λ z. mark_at 59 z.1 >>= λ after. Ok (z.0, after)) (number_read law n 59 rest h refl)

pub count_read : (law : ReadBack) (n : ℕ) (rest : List ℕ) → n < 2 ^ 32 → count_at (58 ∷ (decimal n ++ 58 ∷ 123 ∷ rest)) ≡ Ok (n, rest)
unfolding count_at
count_read law n rest lt = ap (λ (r : Result (ℕ × List ℕ) Fault). r >>= λ z. mark_at 58 z.1 >>= λ brace. mark_at 123 brace >>= λ after. Ok (z.0, after)) (natural_read law n 58 (123 ∷ rest) lt refl)
