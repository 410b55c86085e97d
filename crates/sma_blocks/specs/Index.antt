-- How the index of gaps describes the words.
use Rattle.std.specs.Prelude.{◌≡◌, ◌≢◌, ℕ, ◌+◌, ◌-◌, ◌/◌, ◌<◌, ◌≤◌, ◌==◌, ◌&&◌, not, if◌then◌else◌}
use Rattle.std.specs.Prelude.{List, [], ◌∷◌, length, slice_index}
use Rattle.sma_blocks.specs.Tiles.{Tile, tiles}

-- the size of this tile, if it is a gap that begins at the place
abbrev pub here : Tile → ℕ → ℕ
here tile place = if (tile.place == place) && not tile.live then tile.size else 0

-- the size of the gap among the tiles that begins at a place, or 0
abbrev pub size_at : List Tile → ℕ → ℕ
size_at [] place = 0
size_at (tile ∷ rest) place = here tile place + size_at rest place

-- The i-th number is the size of the gap that begins at the word 2 i, or 0; there is one for every
-- two words.
pub record IsIndexed (words : List ℕ) (from : ℕ) (numbers : List ℕ) : Type 0 where
  pub room : length words ≤ length numbers + length numbers
  pub told : (i : ℕ) → slice_index numbers i ≡ size_at (tiles words from) (i + i)

-- the numbers after n words were cut from the gap that begins at the word 2 `index`
pub record IsShort (old new : List ℕ) (index size n : ℕ) : Type 0 where
  pub count : length new ≡ length old
  pub gone : slice_index new index ≡ 0
  pub rest : n < size → slice_index new (index + n / 2) ≡ size - n
  pub others : (i : ℕ) → i ≢ index → (n < size → i ≢ index + n / 2)
      → slice_index new i ≡ slice_index old i

-- the numbers after a block that ended at `end` and the gaps next to it, from `first` up to `last`,
-- became one gap
pub record IsJoined (old new : List ℕ) (first end last : ℕ) : Type 0 where
  pub count : length new ≡ length old
  pub there : slice_index new (first / 2) ≡ last - first
  pub gone : end < last → slice_index new (end / 2) ≡ 0
  pub others : (i : ℕ) → i ≢ first / 2 → (end < last → i ≢ end / 2)
      → slice_index new i ≡ slice_index old i
