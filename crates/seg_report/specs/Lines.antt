-- The text of a cache's map.
use Rattle.std.specs.Prelude.{ℕ, ◌^◌, Bool, true, false, if◌then◌else◌, nat_le, List, [], ◌++◌}
use Rattle.std.specs.Prelude.{length, sum_by, codes}
use Rattle.std.specs.List.{flat_map, range_with_len}
use Rattle.std.specs.Fmt.{decimal}
use Rattle.seg_words.specs.declared.gaps.Extent.{Extent}
use Rattle.sma_blocks.specs.Live.{largest_of}
use Rattle.php_graph.specs.Numbers.{int_of_text}
use Rattle.notation.specs.Keys.{written_key}
use Rattle.apcu_model.specs.Cache.{Row, Cache}
use Rattle.seg_report.specs.Fits.{blocks_in}
use Rattle.seg_report.specs.Parts.{Part, OfRow, OfRemoved, OfGap, gaps_in, parts_of}

-- a place and a size in words
abbrev pub extent_text : ℕ → ℕ → List ℕ
extent_text place size = decimal place ++ codes " " ++ decimal size

-- a row's number and key
abbrev pub key_end : ℕ → List ℕ → List ℕ
key_end number key =
    decimal number ++ codes " " ++ written_key (int_of_text key) key ++ codes "\n"

-- the first word of a row's line, or of a removed row's
abbrev pub row_word : Bool → List ℕ
row_word gone = if gone then codes "removed " else codes "row "

-- the place and the size of the block of a row or a removed one, the row's number and its key
abbrev pub row_line : Bool → Row → List ℕ
row_line gone row =
    row_word gone
    ++ (extent_text row.place row.size ++ (codes " " ++ key_end row.number row.key))

abbrev pub part_line : Part → List ℕ
part_line (OfRow row) = row_line false row
part_line (OfRemoved row) = row_line true row
part_line (OfGap run) = codes "free " ++ (extent_text run.place run.size ++ codes "\n")

-- a word and a number
abbrev pub number_line : List ℕ → ℕ → List ℕ
number_line word n = word ++ decimal n ++ codes "\n"

-- how many blocks of n words fit into the runs
abbrev pub fits_line : List Extent → ℕ → List ℕ
fits_line runs n = codes "fits " ++ (extent_text n (blocks_in n runs) ++ codes "\n")

-- the line of a power of two, if the longest run has as many words
abbrev pub power_line : List Extent → ℕ → List ℕ
power_line runs k = if nat_le (2 ^ k) (largest_of runs) then fits_line runs (2 ^ k) else []

-- those of all powers of two from 16 up to what a number of 32 bits can be
abbrev pub fits_text : List Extent → List ℕ
fits_text runs = flat_map (power_line runs) (range_with_len 4 28)

-- the sums over the free runs: their words, the longest of them, their number, and how many blocks
-- of each power of two fit into them
abbrev pub free_text : List Extent → List ℕ
free_text runs =
    number_line (codes "free words ") (sum_by (λ (run : Extent). run.size) runs)
    ++ (number_line (codes "largest ") (largest_of runs)
    ++ (number_line (codes "runs ") (length runs)
    ++ fits_text runs))

-- the map: a line for each block and free run by rising place, and the sums over the free runs
abbrev pub map_text : Cache → List ℕ
map_text c =
    codes "map\n"
    ++ (flat_map part_line (parts_of c) ++ free_text (gaps_in c.conf c.rows c.removed))
