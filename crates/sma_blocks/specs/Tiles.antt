-- What the words from a place on represent: adjacent blocks and gaps. The first word of a block is
-- its size, and the first word of a gap is its size plus 1; all sizes are even.
use Rattle.std.specs.Prelude.{◌≡◌, ℕ, zero, suc, ◌+◌, ◌-◌, ◌%◌, ◌≤◌, ◌==◌, ◌&&◌, ◌||◌, Bool, false}
use Rattle.std.specs.Prelude.{true, not, if◌then◌else◌, List, [], ◌∷◌, length, drop, slice_index}
use Rattle.std.specs.List.{list_all}
use Rattle.seg_words.specs.Gaps.{is_whole}

-- a live block, or a gap
pub record Tile : Type 0 where
  pub place : ℕ
  pub size : ℕ
  pub live : Bool

-- the size that a tile's first word gives
abbrev pub size_in : ℕ → ℕ
size_in word = word - word % 2

-- the tile that begins at this place with this word
abbrev pub tile_of : ℕ → ℕ → Tile
tile_of place word = record { place = place; size = size_in word; live = word % 2 == 0 }

-- the tiles that begin among these words, which begin at `place`; this number of words at the front
-- belong to a tile that began before
abbrev pub tiles_in : ℕ → ℕ → List ℕ → List Tile
tiles_in place skip [] = []
tiles_in place zero (word ∷ words) =
    tile_of place word ∷ tiles_in (place + 1) (size_in word - 1) words
tiles_in place (suc skip) (word ∷ words) = tiles_in (place + 1) skip words

-- the tiles from a place on
abbrev pub tiles : List ℕ → ℕ → List Tile
tiles words from = tiles_in from 0 (drop from words)

-- the first word of a tile
abbrev pub word_of : Tile → ℕ
word_of tile = tile.size + (if tile.live then 0 else 1)

-- the tile is at this place in the words
pub record IsTileAt (words : List ℕ) (at : ℕ) (tile : Tile) : Type 0 where
  pub place : tile.place ≡ at
  pub word : slice_index words at ≡ word_of tile
  pub even : tile.size % 2 ≡ 0
  pub enough : 2 ≤ tile.size

-- the tiles fill the words from `from` up to `to`, with no word between them
abbrev pub Fill : List ℕ → ℕ → List Tile → ℕ → Type 0
Fill words from [] to = from ≡ to
Fill words from (tile ∷ rest) to =
    IsTileAt words from tile × Fill words (from + tile.size) rest to

-- two gaps are adjacent in one segment of this number of words; `after_gap` is whether a gap comes
-- before the tiles
abbrev pub gaps_touch : ℕ → Bool → List Tile → Bool
gaps_touch piece after_gap [] = false
gaps_touch piece after_gap (tile ∷ rest) =
    (after_gap && not tile.live && is_whole piece (tile.place - 1) 2)
    || gaps_touch piece (not tile.live) rest

-- each tile lies in one segment
abbrev pub are_whole : ℕ → List Tile → Bool
are_whole piece tiles = list_all (λ tile. is_whole piece tile.place tile.size) tiles

-- the words from an even place on are blocks and gaps to their end, each lies in one segment, and
-- no two gaps in one segment are adjacent
pub record IsFormatted (words : List ℕ) (from piece : ℕ) : Type 0 where
  pub even : from % 2 ≡ 0
  pub full : Fill words from (tiles words from) (length words)
  pub merged : gaps_touch piece false (tiles words from) ≡ false
  pub whole : are_whole piece (tiles words from) ≡ true
