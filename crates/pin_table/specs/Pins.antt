-- Blocks from which workers copy, and the counts of them in the words. A block of 0 is none.
use Rattle.std.specs.Prelude.{◌≡◌, ℕ, ◌+◌, ◌<◌, ◌≤◌, ◌==◌, ◌&&◌, ◌⊎◌, Bool, true, false, nat_lt}
use Rattle.std.specs.Prelude.{cond, List, [], ◌∷◌, length, take, drop, slice_index}
use Rattle.seg_words.specs.declared.layout.TheConstants.{IMAGE_LENGTH, PIN_COUNT}
use Rattle.seg_words.specs.Windows.{is_named}
use Rattle.seg_words.specs.Blocks.{image_place, image_end}

-- the word i is the pin count of the block at `at`
abbrev pub is_count : ℕ → ℕ → Bool
is_count i at = nat_lt 0 at && i == at + PIN_COUNT

-- for how many of these blocks the word i is the pin count
abbrev pub pins_on : ℕ → List ℕ → ℕ
pins_on i [] = 0
pins_on i (at ∷ ats) = cond (is_count i at) 1 0 + pins_on i ats

-- the words of the image in the block at `at`
abbrev pub content_of : List ℕ → ℕ → List ℕ
content_of words at =
    take (slice_index words (at + IMAGE_LENGTH)) (drop (image_place words at) words)

-- a block is at `at` and lies inside these words, and no worker copies from it so far
pub record IsBlock (words : List ℕ) (at : ℕ) : Type 0 where
  pub positive : 0 < at
  pub zero_count : slice_index words (at + PIN_COUNT) ≡ 0
  pub inside : image_end words at ≤ length words

-- two blocks are the same, or have no word in common
abbrev pub AreApart : List ℕ → ℕ → ℕ → Type 0
AreApart words a b = (a ≡ b) ⊎ ((image_end words a ≤ b) ⊎ (image_end words b ≤ a))

-- the block at `at` has no word in common with another that a window names
abbrev pub MeetsNone : List ℕ → List ℕ → ℕ → Type 0
MeetsNone words windows at = (b : ℕ) → is_named windows b ≡ true → AreApart words at b

-- The block at `at` may be pinned. If a window names it, the writer has 0 as its pin count anyway.
pub record MayPin (words windows : List ℕ) (at : ℕ) : Type 0 where
  pub positive : 0 < at
  pub count : is_named windows at ≡ false → slice_index words (at + PIN_COUNT) ≡ 0
  pub inside : image_end words at ≤ length words
  pub apart : MeetsNone words windows at

-- of the readings of an event, the blocks at which a worker was found
abbrev pub refused_in : List (ℕ × ℕ) → List ℕ
refused_in [] = []
refused_in (r ∷ rs) = cond (r.1 == 0) (refused_in rs) (r.0 ∷ refused_in rs)

-- .. and those at which none was
abbrev pub freed_in : List (ℕ × ℕ) → List ℕ
freed_in [] = []
freed_in (r ∷ rs) = cond (r.1 == 0) (r.0 ∷ freed_in rs) (freed_in rs)
