-- Two even numbers as one number, if one of them is 0, or the first one is 2: the larger of them
-- doubled, and 1 more if it is the second one, or 2 more if it is that and the first one is 2.
use Rattle.std.specs.Prelude.{◌≡◌, ◌≢◌, ℕ, ◌+◌, ◌-◌, ◌*◌, ◌/◌, ◌%◌, ◌==◌, if◌then◌else◌, List, []}
use Rattle.std.specs.Prelude.{◌∷◌}

-- the first or the second of the two numbers that this one encodes
abbrev pub half : ℕ → ℕ → ℕ
half number which =
    if number % 4 == which then number / 4 * 2
    else if number % 4 == 2 then (if which == 0 then 2 else number / 4 * 2)
    else 0

-- the two numbers of each
abbrev pub halves_of : List ℕ → List ℕ
halves_of [] = []
halves_of (number ∷ numbers) = half number 0 ∷ (half number 1 ∷ halves_of numbers)

-- the other place of a pair
abbrev pub other_half : ℕ → ℕ
other_half place = (place + 1) - 2 * (place % 2)

-- a number may be at this place with the other one of its pair: that one is 0, or the first of them
-- is 2
abbrev pub MayStand : ℕ → ℕ → ℕ → Type 0
MayStand place number other = other ≢ 0 → (if place % 2 == 0 then number else other) ≡ 2

-- a number that encodes a pair
pub record IsPair (number : ℕ) : Type 0 where
  pub code : number % 4 ≢ 3
  pub one : number ≢ 1
  pub two : number ≢ 2
