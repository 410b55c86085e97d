-- The largest number of a list.
use Rattle.std.proofs.Common.{ℕ, zero, suc, ◌<◌, ◌≤◌, List, [], ◌∷◌, length, get_or, arith}
use Rattle.max_tree.specs.Pages.{largest}

pub largest_bound : (xs : List ℕ) (i : ℕ) → get_or xs i 0 ≤ largest xs
largest_bound [] i = omega arith
largest_bound (x ∷ xs) zero = omega arith
largest_bound (x ∷ xs) (suc i) = omega (arith, largest_bound xs i)

pub largest_least : (xs : List ℕ) (m : ℕ) → ((i : ℕ) → i < length xs → get_or xs i 0 ≤ m) → largest xs ≤ m
largest_least [] m h = omega arith
largest_least (x ∷ xs) m h =
    let first : x ≤ m = h 0 (omega arith) in
    omega (arith, largest_least xs m (λ i inside. h (suc i) (omega arith)))
