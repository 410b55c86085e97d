-- How far a walk over the blocks and gaps of a cache has come.
use Rattle.std.specs.Prelude.{◌≡◌, ℕ, ◌+◌, ◌<◌, ◌≤◌, ◌==◌, ◌&&◌, Bool, if◌then◌else◌, List, [], ◌∷◌}
use Rattle.std.specs.Prelude.{◌++◌, length, map, filter, Option, Some, None, option_map}
use Rattle.std.specs.List.{count_by, flat_map}
use Rattle.seg_words.specs.declared.gaps.Extent.{Extent}
use Rattle.sma_blocks.specs.Live.{gaps, lives}
use Rattle.sma_blocks.specs.Tiles.{Tile, tiles}
use Rattle.sma_blocks.specs.Walk.{IsEdge}
use Rattle.apcu_model.specs.Cache.{Row, extent_of}
use Rattle.entry_slots.specs.Entries.{Entries}
use Rattle.entry_slots.specs.Lists.{begins_at}
use Rattle.notation.specs.Appending.{Extends}
use Rattle.seg_report.specs.Lines.{part_line}
use Rattle.seg_report.specs.Parts.{gaps_in, parts_between}

-- From `a` up to `b` the blocks of the rows and the runs begin where the tiles begin.
pub record AreTiled (rows removed : List Row) (runs : List Extent) (a b : ℕ) (ps : List Tile)
    : Type 0 where
  pub blocks : (w : ℕ) → a ≤ w → w < b → (test : Extent → Bool)
      → count_by (λ e. begins_at w e && test e) (map extent_of (rows ++ removed))
      ≡ count_by (λ e. begins_at w e && test e) (lives ps)
  pub runs_are : (w : ℕ) → a ≤ w → w < b
      → filter (begins_at w) runs ≡ filter (begins_at w) (gaps ps)

abbrev pub first_of : List Extent → Option Extent
first_of [] = None
first_of (run ∷ runs) = Some run

-- a gap as the allocator returns it
abbrev pub pair_of : Extent → ℕ × ℕ
pair_of run = (run.place, run.size)

-- the size of the gap if it begins at the place, or 0
abbrev pub size_if_at : ℕ → Option (ℕ × ℕ) → ℕ
size_if_at at None = 0
size_if_at at (Some gap) = if gap.0 == at then gap.1 else 0

-- a block or a gap begins at `at`, or the words end there; `gap` is the next gap
pub record IsAtPart (ws : List ℕ) (s : Entries) (from at : ℕ) (gap : Option (ℕ × ℕ))
    : Type 0 where
  pub edge : IsEdge ws from at
  pub tiled : AreTiled s.rows s.removed (gaps_in s.conf s.rows s.removed) at (length ws)
      (tiles ws at)
  pub gap_is : gap ≡ option_map pair_of (first_of (gaps (tiles ws at)))

-- the lines of what begins from a place on
abbrev pub lines_from : List ℕ → Entries → ℕ → List ℕ
lines_from ws s at =
    flat_map part_line
    (parts_between s.rows s.removed (gaps_in s.conf s.rows s.removed) at (length ws))

-- The walk went over one part, of this number of words, and its line was appended.
pub record WalksOn (ws : List ℕ) (s : Entries) (from at : ℕ) (old new : List ℕ) (size : ℕ)
    (gap : Option (ℕ × ℕ)) : Type 0 where
  pub next : IsAtPart ws s from (at + size) gap
  pub some : 2 ≤ size
  pub end : at + size ≤ length ws
  pub text : new ++ lines_from ws s (at + size) ≡ old ++ lines_from ws s at
  pub grown : Extends old new
