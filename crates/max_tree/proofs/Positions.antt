-- The first place of a list whose number passes a test, the last one before a place whose number is
-- not 0, and a list of zeros.
use Rattle.std.proofs.Common.{◌≡◌, ◌≢◌, ℕ, ◌<◌, Bool, true, false, List, length, get_or, Option, Some, None, MatchOption, inl, inr, arith, replicate}
use Rattle.std.proofs.lemmas.List.{length-replicate, get_or-replicate, get_or_past}
use Rattle.std.specs.List.{position, position_or_len}
use Rattle.std.proofs.lemmas.Bool.{cases_lt}
use Rattle.std.proofs.lemmas.Bool.Decides.{nat_tests}
use Rattle.std.proofs.lemmas.List.Sums.{position_or_len_is}

pub zero_at : (count i : ℕ) → get_or (replicate {A = ℕ} count 0) i 0 ≡ 0
zero_at count i = elim (cases_lt i count) [
  | inl inside ↦ get_or-replicate count i 0 0 inside
  | inr past ↦ get_or_past (replicate count 0) i 0 (omega (arith, length-replicate {A = ℕ} count 0))
]

pub position_found : (p : ℕ → Bool) (xs : List ℕ) (i : ℕ) → i < length xs → p (get_or xs i 0) ≡ true → ((k : ℕ) → k < i → p (get_or xs k 0) ≡ false) → position p xs ≡ Some i
position_found p xs i inside here before =
    let is : position_or_len p xs ≡ i = position_or_len_is p xs i 0 (omega arith) before (λ _. here) in
    grind (arith, nat_tests)

pub position_none : (p : ℕ → Bool) (xs : List ℕ) → ((k : ℕ) → k < length xs → p (get_or xs k 0) ≡ false) → position p xs ≡ None
position_none p xs before =
    let is : position_or_len p xs ≡ length xs = position_or_len_is p xs (length xs) 0 (omega arith) before (λ h. absurd (omega arith)) in
    grind (arith, nat_tests)

pub record IsLastBefore (xs : List ℕ) (p : ℕ) (r : Option ℕ) : Type 0 where
  pub found : MatchOption r ((i : ℕ) → i < p → get_or xs i 0 ≡ 0) (λ q. (q < p) × (get_or xs q 0 ≢ 0))
  pub last : MatchOption r (Unit {0}) (λ q. (i : ℕ) → q < i → i < p → get_or xs i 0 ≡ 0)
