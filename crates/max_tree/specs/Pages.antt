-- Numbers in pages of a fixed number, each with the largest number of its page.
use Rattle.std.specs.Prelude.{◌≡◌, ℕ, ◌+◌, ◌-◌, ◌*◌, ◌/◌, ◌^◌, ◌<◌, ◌≤◌, max, List, [], ◌∷◌, length}
use Rattle.std.specs.Prelude.{take, drop, slice_index, zero, suc}
use Rattle.max_tree.specs.declared.row.TheConstants.{PAGE}

-- the largest of these numbers, or 0
abbrev pub largest : List ℕ → ℕ
largest [] = 0
largest (x ∷ xs) = max x (largest xs)

-- the numbers of the k-th page; the last one may have fewer
abbrev pub page : List ℕ → ℕ → List ℕ
page numbers k = take PAGE (drop (PAGE * k) numbers)

-- the k-th top is the largest number of the k-th page
abbrev pub AreTops : List ℕ → List ℕ → Type 0
AreTops numbers tops = (k : ℕ) → slice_index tops k ≡ largest (page numbers k)

-- There are fewer than 2 ^ 32 numbers, more than one page of them, and a top for every page, which
-- is the page's largest number.
pub record IsPaged (numbers tops : List ℕ) : Type 0 where
  pub short : length numbers < 2 ^ 32
  pub many : PAGE < length numbers
  pub tops_count : length tops ≡ (length numbers + (PAGE - 1)) / PAGE
  pub tops_are : AreTops numbers tops

-- the number of pages that this many numbers fill
abbrev pub pages_of : ℕ → ℕ
pages_of count = (count + (PAGE - 1)) / PAGE

-- The first `count` numbers are a row, followed by `above` rows of tops, each with the tops of the
-- row before it. The last row is at most one page.
abbrev pub AreLevels : ℕ → ℕ → List ℕ → Type 0
AreLevels zero count levels = (length levels ≡ count) × (count ≤ PAGE)
AreLevels (suc above) count levels =
    IsPaged (take count levels) (take (pages_of count) (drop count levels))
    × AreLevels above (pages_of count) (drop count levels)
