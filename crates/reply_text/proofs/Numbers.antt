-- Numbers in a text, and where they end.
use Rattle.std.proofs.Common.{◌≡◌, ℕ, ◌+◌, ◌%◌, ◌<◌, ◌^◌, Bool, true, false, cond, List, [], ◌∷◌, ◌++◌, refl, sym, ap, ◌∙◌, arith}
use Rattle.std.specs.Prelude.{◌&&◌, nat_lt}
use Rattle.std.specs.Fmt.{decimal}
use Rattle.std.specs.List.{list_all}
use Rattle.std.proofs.lemmas.Fmt.{decimal_by_steps, decimal_injective}
use Rattle.std.proofs.lemmas.List.{append-nil}
use Rattle.std.proofs.lemmas.Bool.Decides.{nat_tests}

-- a byte of a number
abbrev pub is_digit : ℕ → Bool
is_digit b = nat_lt 47 b && nat_lt b 58

-- the bytes before the first that is no digit, and those from it on
abbrev pub front : List ℕ → List ℕ
front [] = []
front (b ∷ bs) = cond (is_digit b) (b ∷ front bs) []

abbrev pub back : List ℕ → List ℕ
back [] = []
back (b ∷ bs) = cond (is_digit b) (back bs) (b ∷ bs)

pub both_true : (a b : Bool) → (a && b) ≡ true → (a ≡ true) × (b ≡ true)
both_true true b e = (refl, e)
both_true false b e = absurd cc

pub all-joined : (p : ℕ → Bool) (xs ys : List ℕ) → list_all p xs ≡ true → list_all p ys ≡ true → list_all p (xs ++ ys) ≡ true
all-joined p [] ys h k = k
all-joined p (x ∷ xs) ys h k =
    let parts = both_true (p x) (list_all p xs) h in
    rw (parts.0) (all-joined p xs ys parts.1 k)

-- the digit of a number below 10
digit_is : (n : ℕ) → n < 10 → is_digit (48 + n) ≡ true
digit_is n small = grind (arith, nat_tests)

one_digit : (n : ℕ) → n < 10 → list_all is_digit ((48 + n) ∷ []) ≡ true
one_digit n small = rw (digit_is n small) refl

pub decimal_digits : (n : ℕ) → n < 2 ^ 64 → list_all is_digit (decimal n) ≡ true
decimal_digits = decimal_by_steps (λ n ds. list_all is_digit ds ≡ true)
    one_digit
    (λ n ds large so_far. all-joined is_digit ds ((48 + n % 10) ∷ []) so_far (one_digit (n % 10) (omega arith)))

pub front-digits : (ds r : List ℕ) → list_all is_digit ds ≡ true → front (ds ++ r) ≡ ds ++ front r
front-digits [] r all = refl
front-digits (d ∷ ds) r all =
    let parts = both_true (is_digit d) (list_all is_digit ds) all in
    ap (λ (b : Bool). cond b (d ∷ front (ds ++ r)) []) parts.0 ∙ ap (λ (l : List ℕ). d ∷ l) (front-digits ds r parts.1)

pub back-digits : (ds r : List ℕ) → list_all is_digit ds ≡ true → back (ds ++ r) ≡ back r
back-digits [] r all = refl
back-digits (d ∷ ds) r all =
    let parts = both_true (is_digit d) (list_all is_digit ds) all in
    ap (λ (b : Bool). cond b (back (ds ++ r)) (d ∷ (ds ++ r))) parts.0 ∙ back-digits ds r parts.1

-- the text does not go on with a digit
pub record IsCut (r : List ℕ) : Type 0 where
  pub nothing : front r ≡ []
  pub all : back r ≡ r

-- a number and what follows it are determined by their text
pub number_told : (a b : ℕ) (r s : List ℕ) → a < 2 ^ 64 → b < 2 ^ 64 → IsCut r → IsCut s → decimal a ++ r ≡ decimal b ++ s → (a ≡ b) × (r ≡ s)
number_told a b r s small small' cut cut' e =
    let read : (n : ℕ) (t : List ℕ) → n < 2 ^ 64 → IsCut t → front (decimal n ++ t) ≡ decimal n =
    λ n t little c. front-digits (decimal n) t (decimal_digits n little) ∙ (ap (λ (l : List ℕ). decimal n ++ l) c.nothing ∙ append-nil (decimal n)) in
    let rest : (n : ℕ) (t : List ℕ) → n < 2 ^ 64 → IsCut t → back (decimal n ++ t) ≡ t =
    λ n t little c. back-digits (decimal n) t (decimal_digits n little) ∙ c.all in (
      decimal_injective a b small small' (sym (read a r small cut) ∙ (ap front e ∙ read b s small' cut')),
      sym (rest a r small cut) ∙ (ap back e ∙ rest b s small' cut'),
    )
