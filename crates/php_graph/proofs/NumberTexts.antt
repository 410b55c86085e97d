-- A text gives an integer exactly if it is what the integer is written as.
use Rattle.std.proofs.Common.{◌≡◌, ℕ, suc, ◌-◌, ◌<◌, ◌≤◌, ◌^◌, true, false, cond, eqb, List, [], ◌∷◌, length, get_or, Some, refl, sym, ap, subst, ◌∙◌, arith, inl, inr, rules}
use Rattle.std.specs.Prelude.{ℤ, pos, negsuc, FitsSigned, ◌&&◌, nat_lt, nat_le}
use Rattle.std.specs.Int.{w64}
use Rattle.std.specs.Char.{is_ascii_digit}
use Rattle.std.specs.List.{list_all}
use Rattle.std.specs.Fmt.{decimal, signed_decimal}
use Rattle.std.proofs.lemmas.Bool.{eqb-true, eq-eqb}
use Rattle.std.proofs.lemmas.Bool.Decides.{nat_tests}
use Rattle.std.proofs.lemmas.Option.{cond_some}
use Rattle.std.proofs.lemmas.Fmt.{decimal-digits_value, digits_decimal, digits_value-decimal, decimal_digit, first_decimal, decimal_nonempty}
use Rattle.std.proofs.lemmas.Str.Parse.{IsNumeralModel, numerals_by_fold}
use Rattle.php_graph.specs.Numbers.{is_canonical, digits_after, natural_of, negative_of, int_of_text}
use Rattle.php_graph.proofs.DraftLemmas.{and_true}
use Rattle.php_graph.proofs.DraftShapes.{same_or}

own : IsNumeralModel (λ ds. list_all is_ascii_digit ds ≡ true) (digits_after 0)
own = numerals_by_fold _ (search rules) digits_after (search rules)

record Canonical (ds : List ℕ) : Type 0 where
  digits : list_all is_ascii_digit ds ≡ true
  some : 0 < length ds
  alone : get_or ds 0 0 ≡ 48 → length ds ≡ 1

zero_alone : (d : ℕ) (ds : List ℕ) → cond (eqb d 48) (eqb (length ds) 0) true ≡ true → d ≡ 48 → suc (length ds) ≡ 1
zero_alone d ds e z =
    let t : eqb (length ds) 0 ≡ true = rw (eq-eqb d 48 z) at e in
    omega (arith, eqb-true (length ds) 0 t)

parts : (ds : List ℕ) → is_canonical ds ≡ true → Canonical ds
parts [] e = absurd cc
parts (d ∷ ds) e =
    let b = and_true (list_all is_ascii_digit (d ∷ ds)) (cond (eqb d 48) (eqb (length ds) 0) true) e in
    record { digits = b.0; some = omega arith; alone = λ z. zero_alone d ds b.1 z }

zero_test : (d : ℕ) (ds : List ℕ) → (d ≡ 48 → suc (length ds) ≡ 1) → cond (eqb d 48) (eqb (length ds) 0) true ≡ true
zero_test d ds alone =
    elim (same_or d 48) [
      | inl e ↦ rw (eq-eqb d 48 e) (eq-eqb (length ds) 0 (omega (arith, alone e)))
      | inr ne ↦ let no : eqb d 48 ≡ false = grind (arith, nat_tests) in rw no refl
    ]

made : (ds : List ℕ) → Canonical ds → is_canonical ds ≡ true
made [] c = absurd (omega (arith, c.some))
made (d ∷ ds) c = rw (c.digits, zero_test d ds c.alone) refl

natural_written : (ds : List ℕ) (n : ℤ) → natural_of ds ≡ Some n → (ds ≡ signed_decimal n) × FitsSigned w64 n
natural_written ds n e =
    let v = digits_after 0 ds in
    let c = cond_some (is_canonical ds && nat_lt v (2 ^ 63)) (pos v) n e in
    let b = and_true (is_canonical ds) (nat_lt v (2 ^ 63)) c.0 in
    let p = parts ds b.0 in
    let lt : v < 2 ^ 63 = grind (arith, nat_tests, b.1) in
    let text : ds ≡ decimal v = sym (decimal-digits_value own ds p.digits p.some p.alone (omega (arith, lt))) in
    subst (λ (z : ℤ). (ds ≡ signed_decimal z) × FitsSigned w64 z) c.1 (text, record { sfits = lt })

negative_written : (ds : List ℕ) (n : ℤ) → negative_of ds ≡ Some n → (45 ∷ ds ≡ signed_decimal n) × FitsSigned w64 n
negative_written ds n e =
    let v = digits_after 0 ds in
    let c = cond_some (is_canonical ds && (nat_lt 0 v && nat_le v (2 ^ 63))) (negsuc (v - 1)) n e in
    let b = and_true (is_canonical ds) (nat_lt 0 v && nat_le v (2 ^ 63)) c.0 in
    let range = and_true (nat_lt 0 v) (nat_le v (2 ^ 63)) b.1 in
    let p = parts ds b.0 in
    let low : 0 < v = grind (arith, nat_tests, range.0) in
    let high : v ≤ 2 ^ 63 = grind (arith, nat_tests, range.1) in
    let back : v ≡ suc (v - 1) = omega (arith, low) in
    let text : 45 ∷ ds ≡ 45 ∷ decimal (suc (v - 1)) = ap (λ (xs : List ℕ). 45 ∷ xs) (sym (decimal-digits_value own ds p.digits p.some p.alone (omega (arith, high))) ∙ ap decimal back) in
    subst (λ (z : ℤ). (45 ∷ ds ≡ signed_decimal z) × FitsSigned w64 z) c.1 (text, record { sfits = omega (arith, low, high) })

pub text_written : (text : List ℕ) (n : ℤ) → int_of_text text ≡ Some n → (text ≡ signed_decimal n) × FitsSigned w64 n
unfolding int_of_text
text_written [] n e = absurd cc
text_written (c ∷ ds) n e =
    elim (same_or c 45) [
      | inl minus ↦
          let h : negative_of ds ≡ Some n = rw (eq-eqb c 45 minus) at e in
          let w = negative_written ds n h in
          (ap (λ (d : ℕ). d ∷ ds) minus ∙ w.0, w.1)
      | inr ne ↦
          let no : eqb c 45 ≡ false = grind (arith, nat_tests) in
          let h : natural_of (c ∷ ds) ≡ Some n = rw no at e in
          natural_written (c ∷ ds) n h
    ]

decimal_canonical : (n : ℕ) → n < 2 ^ 64 → Canonical (decimal n)
decimal_canonical n lt =
    record {
      digits = digits_decimal own n lt;
      some = decimal_nonempty n lt;
      alone = λ z. elim (same_or n 0) [
        | inl e ↦ ap (λ (k : ℕ). length (decimal k)) e ∙ ap length (decimal_digit 0 (omega arith))
        | inr ne ↦ absurd (omega (arith, z, first_decimal n (omega (arith, ne)) lt))
      ];
    }

first_digit : (d : ℕ) (ds : List ℕ) → list_all is_ascii_digit (d ∷ ds) ≡ true → eqb d 45 ≡ false
first_digit d ds e = let b = and_true (is_ascii_digit d) (list_all is_ascii_digit ds) e in grind (arith, nat_tests, b.0)

read_natural : (ds : List ℕ) (m : ℕ) → Canonical ds → digits_after 0 ds ≡ m → m < 2 ^ 63 → int_of_text ds ≡ Some (pos m)
unfolding int_of_text
read_natural [] m c value lt = absurd (omega (arith, c.some))
read_natural (d ∷ ds) m c value lt =
    let test : nat_lt m (2 ^ 63) ≡ true = grind (arith, nat_tests) in
    let natural : natural_of (d ∷ ds) ≡ Some (pos m) = rw (made (d ∷ ds) c, value, test) refl in
    rw (first_digit d ds c.digits) natural

read_negative : (ds : List ℕ) (m : ℕ) → Canonical ds → digits_after 0 ds ≡ suc m → m < 2 ^ 63 → int_of_text (45 ∷ ds) ≡ Some (negsuc m)
unfolding int_of_text
read_negative ds m c value lt =
    let low : nat_lt 0 (suc m) ≡ true = grind (arith, nat_tests) in
    let high : nat_le (suc m) (2 ^ 63) ≡ true = grind (arith, nat_tests) in
    let back : suc m - 1 ≡ m = omega arith in
    rw (made ds c, value, low, high, back) refl

pub text_read : (n : ℤ) → FitsSigned w64 n → int_of_text (signed_decimal n) ≡ Some n
text_read (pos m) fits =
    let lt : m < 2 ^ 63 = fits.sfits in
    read_natural (decimal m) m (decimal_canonical m (omega (arith, lt))) (digits_value-decimal own m (omega (arith, lt))) lt
text_read (negsuc m) fits =
    let lt : m < 2 ^ 63 = fits.sfits in
    read_negative (decimal (suc m)) m (decimal_canonical (suc m) (omega (arith, lt))) (digits_value-decimal own (suc m) (omega (arith, lt))) lt
