-- A table of what a test says of each number.
use Rattle.std.proofs.Common.{◌≡◌, ℕ, zero, suc, ◌+◌, ◌<◌, Bool, true, false, ◌&&◌, List, [], ◌∷◌, length, get_or, refl, arith, ap, ◌∙◌, subst}

abbrev same : Bool → Bool → Bool
same true b = b
same false true = false
same false false = true

-- the rows are what the test says of the numbers from this one on
abbrev pub are_said : (ℕ → Bool) → ℕ → List Bool → Bool
are_said test n [] = true
are_said test n (b ∷ bs) = same b (test n) && are_said test (n + 1) bs

same_is : (a b : Bool) → same a b ≡ true → a ≡ b
same_is true b e = cc
same_is false true e = absurd cc
same_is false false e = refl

both : (a b : Bool) → (a && b) ≡ true → (a ≡ true) × (b ≡ true)
both true b e = (refl, e)
both false b e = absurd cc

pub said_at : (test : ℕ → Bool) (n : ℕ) (rows : List Bool) (i : ℕ) (d : Bool) → are_said test n rows ≡ true → i < length rows → get_or rows i d ≡ test (n + i)
said_at test n [] i d are inside = absurd (omega arith)
said_at test n (b ∷ bs) zero d are inside = same_is b (test n) (both (same b (test n)) (are_said test (n + 1) bs) are).0 ∙ ap test (omega arith)
said_at test n (b ∷ bs) (suc i) d are inside = said_at test (n + 1) bs i d (both (same b (test n)) (are_said test (n + 1) bs) are).1 (omega arith) ∙ ap test (omega arith)

-- the rows are what the test says of the numbers from 0 on
pub said : (test : ℕ → Bool) (rows : List Bool) (n i : ℕ) (d : Bool) → i < n → are_said test 0 rows ≡ true → length rows ≡ n → get_or rows i d ≡ test i
said test rows n i d inside are len = said_at test 0 rows i d are (omega arith) ∙ ap test (omega arith)
