-- Runs of words in a row of words.
use Rattle.std.specs.Prelude.{◌≡◌, ℕ, ◌+◌, ◌<◌, ◌≤◌, List, [], ◌∷◌, length, take, drop, slice_set}
use Rattle.seg_words.specs.Blocks.{IsTold, MayStore}

-- the row after the run was written into it from place `at` on
abbrev pub written : List ℕ → ℕ → List ℕ → List ℕ
written row at [] = row
written row at (word ∷ run) = written (slice_set row at word) (at + 1) run

-- the n words from place `at` on exist, and each may be stored
pub record MayWrite (row windows : List ℕ) (at n : ℕ) : Type 0 where
  pub inside : at + n ≤ length row
  pub apart : (i : ℕ) → at ≤ i → i < at + n → MayStore row windows i

-- the run is in the row from place `at` on
abbrev pub StandsAt : List ℕ → ℕ → List ℕ → Type 0
StandsAt row at run = take (length run) (drop at row) ≡ run

-- the run is there, and each of its words is told
pub record IsToldAt (row windows : List ℕ) (at : ℕ) (run : List ℕ) : Type 0 where
  pub stands : StandsAt row at run
  pub told : (i : ℕ) → at ≤ i → i < at + length run → IsTold windows i
