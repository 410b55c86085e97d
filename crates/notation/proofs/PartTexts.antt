-- A part that is read is the part that was written.
use Rattle.std.proofs.Common.{◌≡◌, ℕ, suc, ◌+◌, ◌^◌, ◌<◌, Bool, true, false, cond, ◌&&◌, eqb, ltb, List, [], ◌∷◌, ◌++◌, length, take, drop, Option, Some, None, Result, Ok, Err, ℤ, pos, negsuc, FitsSigned, w64, refl, sym, ap, subst, ◌∙◌, arith}
use Rattle.std.specs.Prelude.{slice_index}
use Rattle.std.specs.Fmt.{decimal, signed_decimal}
use Rattle.std.proofs.lemmas.Fmt.{decimal_digit}
use Rattle.std.proofs.lemmas.Bool.{eqb-true, ltb-true}
use Rattle.std.proofs.lemmas.List.{take-append-drop, length-take}
use Rattle.std.proofs.Math.Seq.{drop-cons}
use Rattle.std.specs.List.{AllByRecursion}
use Rattle.php_graph.specs.ByteStrings.{AreBytes}
use Rattle.php_graph.specs.Numbers.{int_of_text}
use Rattle.notation.specs.declared.fault.Fault.{Fault}
use Rattle.notation.specs.Marks.{◌>>=◌, mark_at, number_len, found, number_at, as_natural, as_truth, number_as, natural_at, quoted_at, sized_at, string_at, integer_at, count_at}

-- a text that gives an integer is what is written for it
abbrev pub Written : Type 0
Written = (text : List ℕ) (n : ℤ) → int_of_text text ≡ Some n → (text ≡ signed_decimal n) × FitsSigned w64 n

-- ---- steps

pub bind_ok : {A B : Type 0} (r : Result A Fault) (f : A → Result B Fault) (y : B) → (r >>= f) ≡ Ok y → (x : A) × (r ≡ Ok x) × (f x ≡ Ok y)
bind_ok (Ok x) f y e = (x, refl, e)
bind_ok (Err d) f y e = absurd cc

abbrev done : {A : Type 0} → A → Result A Fault
done x = Ok x

pub ok_is : {A : Type 0} (x y : A) → done x ≡ done y → x ≡ y
ok_is x y e = cc

pub if_ok : {A : Type 0} (b : Bool) (x y : A) (fault : Fault) → cond b (done x) (Err fault) ≡ Ok y → (b ≡ true) × (x ≡ y)
if_ok true x y fault e = (refl, cc)
if_ok false x y fault e = absurd cc

both_true : (s t : Bool) → (s && t) ≡ true → (s ≡ true) × (t ≡ true)
both_true true true e = (refl, refl)
both_true true false e = absurd cc
both_true false t e = absurd cc

-- ---- marks and numbers

pub mark_takes : (mark : ℕ) (bytes rest : List ℕ) → mark_at mark bytes ≡ Ok rest → bytes ≡ mark ∷ rest
mark_takes mark [] rest e = absurd cc
mark_takes mark (b ∷ after) rest e =
    let i = if_ok (eqb b mark) after rest _ e in
    let same : b ≡ mark = eqb-true b mark i.0 in
    ap (λ (x : ℕ). x ∷ after) same ∙ ap (λ (t : List ℕ). mark ∷ t) i.1

found_ok : {A : Type 0} (o : Option A) (rest run : List ℕ) (x : A) (after : List ℕ) → found o rest run ≡ Ok (x, after) → (o ≡ Some x) × (rest ≡ after)
found_ok (Some y) rest run x after e = let s = ok_is (y, rest) (x, after) e in (ap (λ (p : _). Some p.0) s, ap (λ (p : _). p.1) s)
found_ok None rest run x after e = absurd cc

pub number_takes : (law : Written) (bytes : List ℕ) (z : ℤ) (rest : List ℕ) → number_at bytes ≡ Ok (z, rest) → bytes ≡ signed_decimal z ++ rest
unfolding number_at
number_takes law [] z rest e = absurd cc
number_takes law (b ∷ more) z rest e =
    let bytes = b ∷ more in
    let len = number_len bytes in
    let f = found_ok (int_of_text (take len bytes)) (drop len bytes) bytes z rest e in
    let w = law (take len bytes) z f.0 in
    sym (take-append-drop len bytes) ∙ ap (λ (t : List ℕ). t ++ drop len bytes) w.0 ∙ ap (λ (t : List ℕ). signed_decimal z ++ t) f.1

pub record IsNumber {A : Type 0} (choose : ℤ → Option A) (bytes : List ℕ) (x : A) (rest : List ℕ) : Type 0 where
  pub number : ℤ
  pub text : bytes ≡ signed_decimal number ++ rest
  pub chosen : choose number ≡ Some x

pub as_takes : {A : Type 0} (law : Written) (choose : ℤ → Option A) (bytes : List ℕ) (x : A) (rest : List ℕ) → number_as choose bytes ≡ Ok (x, rest) → IsNumber choose bytes x rest
as_takes law choose bytes x rest e =
    let b = bind_ok (number_at bytes) (λ n. found (choose n.0) n.1 bytes) (x, rest) e in
    let f = found_ok (choose b.0.0) b.0.1 bytes x rest b.2 in
    record { number = b.0.0; text = number_takes law bytes b.0.0 b.0.1 b.1 ∙ ap (λ (t : List ℕ). signed_decimal b.0.0 ++ t) f.1; chosen = f.0 }

if_some : {A : Type 0} (b : Bool) (x y : A) → cond b (Some x) None ≡ Some y → (b ≡ true) × (x ≡ y)
if_some true x y e = (refl, cc)
if_some false x y e = absurd cc

natural_is : (z : ℤ) (n : ℕ) → as_natural z ≡ Some n → signed_decimal z ≡ decimal n
natural_is (pos m) n e = ap decimal (if_some (ltb m (2 ^ 32)) m n e).1
natural_is (negsuc m) n e = absurd cc

pub natural_takes : (law : Written) (bytes : List ℕ) (n : ℕ) (rest : List ℕ) → natural_at bytes ≡ Ok (n, rest) → bytes ≡ decimal n ++ rest
natural_takes law bytes n rest e =
    let t = as_takes law as_natural bytes n rest e in
    t.text ∙ ap (λ (x : List ℕ). x ++ rest) (natural_is t.number n t.chosen)

truth_bits : (m : ℕ) (zero_is one_is b : Bool) → eqb m 0 ≡ zero_is → eqb m 1 ≡ one_is → cond zero_is (Some false) (cond one_is (Some true) None) ≡ Some b → decimal m ≡ cond b (49 ∷ []) (48 ∷ [])
truth_bits m true one_is true z o e = absurd cc
truth_bits m true one_is false z o e = ap decimal (eqb-true m 0 z) ∙ decimal_digit 0 (omega arith)
truth_bits m false true true z o e = ap decimal (eqb-true m 1 o) ∙ decimal_digit 1 (omega arith)
truth_bits m false true false z o e = absurd cc
truth_bits m false false b z o e = absurd cc

truth_is : (z : ℤ) (b : Bool) → as_truth z ≡ Some b → signed_decimal z ≡ cond b (49 ∷ []) (48 ∷ [])
truth_is (pos m) b e = truth_bits m (eqb m 0) (eqb m 1) b refl refl e
truth_is (negsuc m) b e = absurd cc

pub truth_takes : (law : Written) (bytes : List ℕ) (b : Bool) (rest : List ℕ) → number_as as_truth bytes ≡ Ok (b, rest) → bytes ≡ cond b (49 ∷ []) (48 ∷ []) ++ rest
truth_takes law bytes b rest e =
    let t = as_takes law as_truth bytes b rest e in
    t.text ∙ ap (λ (x : List ℕ). x ++ rest) (truth_is t.number b t.chosen)

-- ---- byte strings

pub record IsQuoted (n : ℕ) (bytes text rest : List ℕ) : Type 0 where
  pub parts : bytes ≡ text ++ 34 ∷ rest
  pub len : length text ≡ n

pub quoted_takes : (n : ℕ) (number bytes text rest : List ℕ) → quoted_at n number bytes ≡ Ok (text, rest) → IsQuoted n bytes text rest
quoted_takes n number bytes text rest e =
    let i = if_ok (ltb n (length bytes) && eqb (slice_index bytes n) 34) (take n bytes, drop (n + 1) bytes) (text, rest) _ e in
    let t = both_true (ltb n (length bytes)) (eqb (slice_index bytes n) 34) i.0 in
    let lt : n < length bytes = ltb-true _ _ t.0 in
    let quote : slice_index bytes n ≡ 34 = eqb-true _ _ t.1 in
    let next : suc n ≡ n + 1 = omega arith in
    let cut : drop n bytes ≡ 34 ∷ drop (n + 1) bytes = drop-cons bytes n 0 lt ∙ ap (λ (b : ℕ). b ∷ drop (suc n) bytes) quote ∙ ap (λ (k : ℕ). 34 ∷ drop k bytes) next in
    subst (λ (p : List ℕ × List ℕ). IsQuoted n bytes p.0 p.1) i.1 (record {
      parts = sym (take-append-drop n bytes) ∙ ap (λ (x : List ℕ). take n bytes ++ x) cut;
      len = omega (arith, length-take n bytes);
    })

pub sized_takes : (law : Written) (bytes text rest : List ℕ) → sized_at bytes ≡ Ok (text, rest) → bytes ≡ 58 ∷ (decimal (length text) ++ 58 ∷ 34 ∷ (text ++ 34 ∷ rest))
unfolding sized_at
sized_takes law bytes text rest e =
    let a = bind_ok (mark_at 58 bytes) (λ number. natural_at number >>= λ n. mark_at 58 n.1 >>= λ opening. mark_at 34 opening >>= λ inner. quoted_at n.0 number inner) (text, rest) e in
    let b = bind_ok (natural_at a.0) (λ n. mark_at 58 n.1 >>= λ opening. mark_at 34 opening >>= λ inner. quoted_at n.0 a.0 inner) (text, rest) a.2 in
    let d = bind_ok (mark_at 58 b.0.1) (λ opening. mark_at 34 opening >>= λ inner. quoted_at b.0.0 a.0 inner) (text, rest) b.2 in
    let f = bind_ok (mark_at 34 d.0) (λ inner. quoted_at b.0.0 a.0 inner) (text, rest) d.2 in
    let q = quoted_takes b.0.0 a.0 f.0 text rest f.2 in
    let marked : b.0.1 ≡ 58 ∷ 34 ∷ (text ++ 34 ∷ rest) = mark_takes 58 b.0.1 d.0 d.1 ∙ ap (λ (x : List ℕ). 58 ∷ x) (mark_takes 34 d.0 f.0 f.1 ∙ ap (λ (x : List ℕ). 34 ∷ x) q.parts) in
    let sized : a.0 ≡ decimal (length text) ++ 58 ∷ 34 ∷ (text ++ 34 ∷ rest) = natural_takes law a.0 b.0.0 b.0.1 b.1 ∙ ap (λ (k : ℕ). decimal k ++ b.0.1) (sym q.len) ∙ ap (λ (x : List ℕ). decimal (length text) ++ x) marked in
    mark_takes 58 bytes a.0 a.1 ∙ ap (λ (x : List ℕ). 58 ∷ x) sized

pub string_takes : (law : Written) (bytes text rest : List ℕ) → string_at bytes ≡ Ok (text, rest) → bytes ≡ 58 ∷ (decimal (length text) ++ 58 ∷ 34 ∷ (text ++ 34 ∷ 59 ∷ rest))
unfolding string_at
string_takes law bytes text rest e =
    let a = bind_ok (sized_at bytes) (λ t. mark_at 59 t.1 >>= λ r. Ok (t.0, r)) (text, rest) e in
    let b = bind_ok (mark_at 59 a.0.1) (λ r. Ok (a.0.0, r)) (text, rest) a.2 in
    let s = ok_is (a.0.0, b.0) (text, rest) b.2 in
    let last : a.0.1 ≡ 59 ∷ rest = mark_takes 59 a.0.1 b.0 b.1 ∙ ap (λ (p : List ℕ × List ℕ). 59 ∷ p.1) s in
    sized_takes law bytes a.0.0 a.0.1 a.1 ∙ ap (λ (t : List ℕ). 58 ∷ (decimal (length a.0.0) ++ 58 ∷ 34 ∷ (a.0.0 ++ 34 ∷ t))) last ∙ ap (λ (p : List ℕ × List ℕ). 58 ∷ (decimal (length p.0) ++ 58 ∷ 34 ∷ (p.0 ++ 34 ∷ 59 ∷ rest))) s

pub integer_takes : (law : Written) (bytes : List ℕ) (n : ℤ) (rest : List ℕ) → integer_at bytes ≡ Ok (n, rest) → bytes ≡ 58 ∷ (signed_decimal n ++ 59 ∷ rest)
unfolding integer_at
integer_takes law bytes n rest e =
    let a = bind_ok (mark_at 58 bytes) (λ number. number_at number >>= λ z. mark_at 59 z.1 >>= λ r. Ok (z.0, r)) (n, rest) e in
    let b = bind_ok (number_at a.0) (λ z. mark_at 59 z.1 >>= λ r. Ok (z.0, r)) (n, rest) a.2 in
    let d = bind_ok (mark_at 59 b.0.1) (λ r. Ok (b.0.0, r)) (n, rest) b.2 in
    let s = ok_is (b.0.0, d.0) (n, rest) d.2 in
    mark_takes 58 bytes a.0 a.1 ∙ ap (λ (x : List ℕ). 58 ∷ x) (number_takes law a.0 b.0.0 b.0.1 b.1 ∙ ap (λ (x : List ℕ). signed_decimal b.0.0 ++ x) (mark_takes 59 b.0.1 d.0 d.1)) ∙ ap (λ (p : ℤ × List ℕ). 58 ∷ (signed_decimal p.0 ++ 59 ∷ p.1)) s

pub count_takes : (law : Written) (bytes : List ℕ) (n : ℕ) (rest : List ℕ) → count_at bytes ≡ Ok (n, rest) → bytes ≡ 58 ∷ (decimal n ++ 58 ∷ 123 ∷ rest)
unfolding count_at
count_takes law bytes n rest e =
    let a = bind_ok (mark_at 58 bytes) (λ number. natural_at number >>= λ z. mark_at 58 z.1 >>= λ brace. mark_at 123 brace >>= λ r. Ok (z.0, r)) (n, rest) e in
    let b = bind_ok (natural_at a.0) (λ z. mark_at 58 z.1 >>= λ brace. mark_at 123 brace >>= λ r. Ok (z.0, r)) (n, rest) a.2 in
    let d = bind_ok (mark_at 58 b.0.1) (λ brace. mark_at 123 brace >>= λ r. Ok (b.0.0, r)) (n, rest) b.2 in
    let f = bind_ok (mark_at 123 d.0) (λ r. Ok (b.0.0, r)) (n, rest) d.2 in
    let s = ok_is (b.0.0, f.0) (n, rest) f.2 in
    let marked : b.0.1 ≡ 58 ∷ 123 ∷ f.0 = mark_takes 58 b.0.1 d.0 d.1 ∙ ap (λ (x : List ℕ). 58 ∷ x) (mark_takes 123 d.0 f.0 f.1) in
    mark_takes 58 bytes a.0 a.1 ∙ ap (λ (x : List ℕ). 58 ∷ x) (natural_takes law a.0 b.0.0 b.0.1 b.1 ∙ ap (λ (x : List ℕ). decimal b.0.0 ++ x) marked) ∙ ap (λ (p : ℕ × List ℕ). 58 ∷ (decimal p.0 ++ 58 ∷ 123 ∷ p.1)) s

-- ---- what was read has its range

abbrev pub AreSomeBytes : List ℕ → Type 0
AreSomeBytes bytes = AllByRecursion (λ b. b < 256) bytes

pub bytes_before : (a b : List ℕ) → AreSomeBytes (a ++ b) → AreSomeBytes a
bytes_before [] b fits = tt
bytes_before (x ∷ a) b fits = (fits.0, bytes_before a b fits.1)

pub bytes_behind : (a b : List ℕ) → AreSomeBytes (a ++ b) → AreSomeBytes b
bytes_behind [] b fits = fits
bytes_behind (x ∷ a) b fits = bytes_behind a b fits.1

number_fits : (law : Written) (bytes : List ℕ) (z : ℤ) (rest : List ℕ) → number_at bytes ≡ Ok (z, rest) → FitsSigned w64 z
unfolding number_at
number_fits law [] z rest e = absurd cc
number_fits law (b ∷ more) z rest e =
    let bytes = b ∷ more in
    let len = number_len bytes in
    let f = found_ok (int_of_text (take len bytes)) (drop len bytes) bytes z rest e in
    (law (take len bytes) z f.0).1

pub integer_fits : (law : Written) (bytes : List ℕ) (n : ℤ) (rest : List ℕ) → integer_at bytes ≡ Ok (n, rest) → FitsSigned w64 n
unfolding integer_at
integer_fits law bytes n rest e =
    let a = bind_ok (mark_at 58 bytes) (λ number. number_at number >>= λ z. mark_at 59 z.1 >>= λ r. Ok (z.0, r)) (n, rest) e in
    let b = bind_ok (number_at a.0) (λ z. mark_at 59 z.1 >>= λ r. Ok (z.0, r)) (n, rest) a.2 in
    let d = bind_ok (mark_at 59 b.0.1) (λ r. Ok (b.0.0, r)) (n, rest) b.2 in
    let s = ok_is (b.0.0, d.0) (n, rest) d.2 in
    subst (λ (p : ℤ × List ℕ). FitsSigned w64 p.0) s (number_fits law a.0 b.0.0 b.0.1 b.1)

natural_fits : (z : ℤ) (n : ℕ) → as_natural z ≡ Some n → n < 2 ^ 32
natural_fits (pos m) n e = let i = if_some (ltb m (2 ^ 32)) m n e in subst (λ (k : ℕ). k < 2 ^ 32) i.1 (ltb-true m (2 ^ 32) i.0)
natural_fits (negsuc m) n e = absurd cc

sized_short : (law : Written) (bytes text rest : List ℕ) → sized_at bytes ≡ Ok (text, rest) → length text < 2 ^ 32
unfolding sized_at
sized_short law bytes text rest e =
    let a = bind_ok (mark_at 58 bytes) (λ number. natural_at number >>= λ n. mark_at 58 n.1 >>= λ opening. mark_at 34 opening >>= λ inner. quoted_at n.0 number inner) (text, rest) e in
    let b = bind_ok (natural_at a.0) (λ n. mark_at 58 n.1 >>= λ opening. mark_at 34 opening >>= λ inner. quoted_at n.0 a.0 inner) (text, rest) a.2 in
    let d = bind_ok (mark_at 58 b.0.1) (λ opening. mark_at 34 opening >>= λ inner. quoted_at b.0.0 a.0 inner) (text, rest) b.2 in
    let f = bind_ok (mark_at 34 d.0) (λ inner. quoted_at b.0.0 a.0 inner) (text, rest) d.2 in
    let q = quoted_takes b.0.0 a.0 f.0 text rest f.2 in
    let t = as_takes law as_natural a.0 b.0.0 b.0.1 b.1 in
    subst (λ (k : ℕ). k < 2 ^ 32) (sym q.len) (natural_fits t.number b.0.0 t.chosen)

pub sized_fits : (law : Written) (bytes text rest : List ℕ) → sized_at bytes ≡ Ok (text, rest) → AreSomeBytes bytes → AreBytes text
sized_fits law bytes text rest e fits =
    let inside = subst AreSomeBytes (sized_takes law bytes text rest e) fits in
    let opened = bytes_behind (decimal (length text)) (58 ∷ 34 ∷ (text ++ 34 ∷ rest)) inside.1 in
    (sized_short law bytes text rest e, bytes_before text (34 ∷ rest) opened.1.1)

pub string_fits : (law : Written) (bytes text rest : List ℕ) → string_at bytes ≡ Ok (text, rest) → AreSomeBytes bytes → AreBytes text
unfolding string_at
string_fits law bytes text rest e fits =
    let a = bind_ok (sized_at bytes) (λ t. mark_at 59 t.1 >>= λ r. Ok (t.0, r)) (text, rest) e in
    let b = bind_ok (mark_at 59 a.0.1) (λ r. Ok (a.0.0, r)) (text, rest) a.2 in
    let s = ok_is (a.0.0, b.0) (text, rest) b.2 in
    subst (λ (p : List ℕ × List ℕ). AreBytes p.0) s (sized_fits law bytes a.0.0 a.0.1 a.1 fits)
