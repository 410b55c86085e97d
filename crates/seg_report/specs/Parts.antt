-- What a cache's words contain after its slots.
use Rattle.std.specs.Prelude.{ℕ, ◌-◌, Bool, if◌then◌else◌, List, ◌++◌, map, filter}
use Rattle.std.specs.List.{flat_map, range_with_len}
use Rattle.seg_words.specs.declared.gaps.Extent.{Extent}
use Rattle.seg_words.specs.Gaps.{free_runs}
use Rattle.apcu_model.specs.declared.conf.Conf.{Conf}
use Rattle.apcu_model.specs.Cache.{Row, Cache, extent_of}
use Rattle.apcu_model.specs.Conf.{piece_of}
use Rattle.entry_slots.specs.Lists.{is_at, begins_at}

-- the block of a row, the block of a removed row, or a longest run of free words in one segment
pub data Part : Type 0 where
  OfRow : Row → Part
  OfRemoved : Row → Part
  OfGap : Extent → Part

-- the number of its words
abbrev pub size_of : Part → ℕ
size_of (OfRow row) = row.size
size_of (OfRemoved row) = row.size
size_of (OfGap run) = run.size

-- the free words outside the blocks of these rows and removed rows, by rising place
abbrev pub gaps_in : Conf → List Row → List Row → List Extent
gaps_in conf rows removed =
    free_runs conf.slots conf.words (piece_of conf) (map extent_of (rows ++ removed))

-- what begins at the place
abbrev pub parts_at : List Row → List Row → List Extent → ℕ → List Part
parts_at rows removed gaps at =
    map OfRow (filter (is_at at) rows)
    ++ (map OfRemoved (filter (is_at at) removed) ++ map OfGap (filter (begins_at at) gaps))

-- what begins at the places from `from` up to `to`, by rising place
abbrev pub parts_between : List Row → List Row → List Extent → ℕ → ℕ → List Part
parts_between rows removed gaps from to =
    flat_map (parts_at rows removed gaps) (range_with_len from (to - from))

-- all that the words of a cache of this shape contain, with these rows and removed rows
abbrev pub parts_in : Conf → List Row → List Row → List Part
parts_in conf rows removed =
    parts_between rows removed (gaps_in conf rows removed) conf.slots conf.words

abbrev pub parts_of : Cache → List Part
parts_of c = parts_in c.conf c.rows c.removed

-- the block of a row or of a removed one
abbrev pub part_for : Bool → Row → Part
part_for gone row = if gone then OfRemoved row else OfRow row
