-- Bits in words of 64, each row with a row that has a bit for each word that is not 0.
use Rattle.std.specs.Prelude.{◌≡◌, ℕ, ◌+◌, ◌-◌, ◌/◌, ◌%◌, ◌^◌, ◌<◌, ◌≤◌, min, List, length}
use Rattle.std.specs.Prelude.{slice_index, take, drop, zero, suc}
use Rattle.std.specs.Int.{bit_at}
use Rattle.max_tree.specs.declared.bits.TheConstants.{WORD}

-- the bit at this place, 0 or 1
abbrev pub bit : List ℕ → ℕ → ℕ
bit words i = bit_at (slice_index words (i / WORD)) (i % WORD)

-- a bit is 1 if the number at its place is not 0
abbrev pub Notes : List ℕ → List ℕ → Type 0
Notes words numbers = (i : ℕ) → bit words i ≡ min (slice_index numbers i) 1

-- There are fewer than 2 ^ 32 words, and more than one; each has a bit in the row above, which is
-- set if the word is not 0.
pub record IsSummed (words some : List ℕ) : Type 0 where
  pub short : length words < 2 ^ 32
  pub many : 1 < length words
  pub some_count : length some ≡ (length words + (WORD - 1)) / WORD
  pub notes : Notes some words

-- the number of words that this many bits fill
abbrev pub words_of : ℕ → ℕ
words_of count = (count + (WORD - 1)) / WORD

-- The first `count` words are a row, followed by `above` rows, each with a bit for each word of the
-- row before it. The last row is at most one word.
abbrev pub AreWords : ℕ → ℕ → List ℕ → Type 0
AreWords zero count words = (length words ≡ count) × (count ≤ 1)
AreWords (suc above) count words =
    IsSummed (take count words) (take (words_of count) (drop count words))
    × AreWords above (words_of count) (drop count words)

-- there are fewer than 2 ^ 32 numbers, and a bit for each, which is set if the number is not 0
pub record IsNoted (numbers some : List ℕ) : Type 0 where
  pub short : length numbers < 2 ^ 32
  pub some_count : length some ≡ (length numbers + (WORD - 1)) / WORD
  pub notes : Notes some numbers
