-- The chain of gaps: the second word of each is the place of the next one.
use Rattle.std.specs.Prelude.{◌≡◌, ℕ, ◌+◌, MatchBool, List, [], ◌∷◌, slice_index}
use Rattle.seg_words.specs.declared.gaps.Extent.{Extent}
use Rattle.sma_blocks.specs.Tiles.{Tile}

-- The places from `first` on by the second word of each, up to 0, are the places of these runs, and
-- the first word of each is its size plus 1.
abbrev pub IsChain : List ℕ → ℕ → List Extent → Type 0
IsChain words first [] = first ≡ 0
IsChain words first (run ∷ runs) =
    (first ≡ run.place) × (slice_index words run.place ≡ run.size + 1)
    × IsChain words (slice_index words (run.place + 1)) runs

-- the gaps among the tiles are linked from `first` on, and the last one's second word is `last`
abbrev pub AreLinked : List ℕ → ℕ → List Tile → ℕ → Type 0
AreLinked words first [] last = first ≡ last
AreLinked words first (tile ∷ rest) last =
    MatchBool tile.live (AreLinked words first rest last)
    ((first ≡ tile.place) × AreLinked words (slice_index words (tile.place + 1)) rest last)
