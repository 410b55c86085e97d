-- What a search for a gap finds.
use Rattle.std.specs.Prelude.{◌≡◌, ◌≢◌, ℕ, ◌<◌, nat_le, List, slice_index, Some, MatchOption}
use Rattle.std.specs.List.{position}
use Rattle.sma_blocks.specs.declared.sma.near.Fit.{Fit}

-- The first number that is n or more, with the last place before it of a number that is not 0, if
-- there is one.
pub record IsFit (numbers : List ℕ) (n : ℕ) (fit : Fit) : Type 0 where
  pub first : position (λ value. nat_le n value) numbers ≡ Some fit.index
  pub size : fit.size ≡ slice_index numbers fit.index
  pub before : MatchOption fit.before ((k : ℕ) → k < fit.index → slice_index numbers k ≡ 0)
      (λ q. (q < fit.index) × (slice_index numbers q ≢ 0))
  pub last : MatchOption fit.before (Unit {0})
      (λ q. (k : ℕ) → q < k → k < fit.index → slice_index numbers k ≡ 0)
