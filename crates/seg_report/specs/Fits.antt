-- How many blocks of one size can be taken one after the other.
use Rattle.std.specs.Prelude.{◌≡◌, ℕ, zero, suc, ◌/◌, List, ◌∷◌, ◌++◌, map, sum_by, Some, None}
use Rattle.seg_words.specs.declared.gaps.Extent.{Extent}
use Rattle.seg_words.specs.Gaps.{first_fit}
use Rattle.apcu_model.specs.Cache.{Cache, extent_of}
use Rattle.apcu_model.specs.Conf.{piece_of}

-- how many blocks of n words these runs hold, each run divided separately
abbrev pub blocks_in : ℕ → List Extent → ℕ
blocks_in n runs = sum_by (λ (run : Extent). run.size / n) runs

-- Outside the extents, this number of blocks of n words can be taken one after the other, each at
-- the lowest place where it fits, and no more.
abbrev pub TakesAll : ℕ → ℕ → ℕ → ℕ → ℕ → List Extent → Type 0
TakesAll from to piece n zero extents = first_fit from to piece n extents ≡ None
TakesAll from to piece n (suc k) extents =
    (at : ℕ) × (first_fit from to piece n extents ≡ Some at)
    × TakesAll from to piece n k (record { place = at; size = n } ∷ extents)

-- the same outside the blocks of a cache
abbrev pub HasRoomFor : ℕ → ℕ → Cache → Type 0
HasRoomFor n k c =
    TakesAll c.conf.slots c.conf.words (piece_of c.conf) n k
    (map extent_of (c.rows ++ c.removed))
