-- The words of the tests of pinned blocks.
use Rattle.std.specs.Prelude.{ℕ, List, replicate, slice_set}

-- 32 words with a block at 2: a key of three bytes, and an image of nine words from 15 on, of which
-- three are not 0
abbrev pub one_block : List ℕ
one_block =
    slice_set (slice_set (slice_set (slice_set (slice_set (replicate 32 0) 4 3) 5 9) 15 9) 18 12)
    23 6
