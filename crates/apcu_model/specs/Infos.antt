-- The replies of the information calls: arrays of named fields, some of them lists of such arrays.
use Rattle.std.specs.List.{range_with_len}
use Rattle.std.specs.Prelude.{◌/◌, ◌%◌, ◌==◌, filter}
use Rattle.std.specs.Prelude.{ℕ, ◌+◌, ◌-◌, ◌*◌, ◌^◌, min, pos, Bool, if◌then◌else◌, List, [], ◌∷◌}
use Rattle.std.specs.Prelude.{◌++◌, length, map, sum_by, codes, Option, option_map}
use Rattle.seg_words.specs.declared.gaps.Extent.{Extent}
use Rattle.seg_words.specs.Gaps.{free_runs}
use Rattle.php_graph.specs.declared.key.Key.{Key}
use Rattle.php_graph.specs.declared.key.Key.TheVariants as keys
use Rattle.php_graph.specs.declared.child.Child.{Child}
use Rattle.php_graph.specs.declared.child.Child.TheVariants.{Own}
use Rattle.php_graph.specs.declared.kind.Kind.{Kind}
use Rattle.php_graph.specs.declared.kind.Kind.TheVariants as kinds
use Rattle.apcu_model.specs.Conf.{piece_of}
use Rattle.apcu_model.specs.declared.conf.Conf.{Conf}
use Rattle.apcu_model.specs.declared.row_info.Counts.{Counts}
use Rattle.apcu_model.specs.declared.row_info.RowInfo.{RowInfo}
use Rattle.apcu_model.specs.declared.row_info.ListedRow.{ListedRow}
use Rattle.apcu_model.specs.Cache.{Row, Cache, counts_of, extent_of}
use Rattle.apcu_model.specs.Expiry.{live_row}
use Rattle.apcu_model.specs.SlotOrder.{in_slot_order}

-- ---- values in these replies: each is its places, by the number that its first place gets

-- The places of a value, by the number of the first one.
abbrev pub Told : Type 0
Told = ℕ → List Kind

-- a number; from 2^63 on it becomes the maximum of 64 bits
abbrev pub number_kind : ℕ → Kind
number_kind n = kinds.Int (pos (min n (2 ^ 63 - 1)))

abbrev pub info_number : ℕ → Told
info_number n place = number_kind n ∷ []

abbrev pub info_string : List ℕ → Told
info_string bytes place = kinds.Str bytes ∷ []

-- The members of an array, each with the number of its value: the first value has this number, and
-- each other one that after the last place of the value before it.
abbrev pub info_members : ℕ → List (Key × Told) → List (Key × Child)
info_members place [] = []
info_members place (m ∷ ms) =
    (m.0, Own place) ∷ info_members (place + length (m.1 place)) ms

-- the places of the values, one value after the other
abbrev pub info_values : ℕ → List (Key × Told) → List Kind
info_values place [] = []
info_values place (m ∷ ms) = m.1 place ++ info_values (place + length (m.1 place)) ms

-- an array of keys and values
abbrev pub info_array : List (Key × Told) → Told
info_array ms place = kinds.Array (info_members (place + 1) ms) ∷ info_values (place + 1) ms

-- a value under a name
abbrev pub info_field : List ℕ → Told → Key × Told
info_field name value = (keys.Str name, value)

-- values under the keys from n on
abbrev pub info_numbered : ℕ → List Told → List (Key × Told)
info_numbered n [] = []
info_numbered n (value ∷ values) = (keys.Int (pos n), value) ∷ info_numbered (n + 1) values

-- values under the keys 0, 1 and so on
abbrev pub info_list : List Told → Told
info_list values = info_array (info_numbered 0 values)

-- the bytes of this many words
abbrev pub word_bytes : ℕ → ℕ
word_bytes words = 8 * words

-- ---- a row

-- information about a row besides its key and its value
abbrev pub info_of_row : Row → RowInfo
info_of_row row = record {
  ttl = row.ttl;
  ctime = row.ctime;
  mtime = row.mtime;
  atime = row.atime;
  dtime = row.dtime;
  hits = row.hits;
  size = row.size;
}

-- and with its key
abbrev pub listed_of : Row → ListedRow
listed_of row = record { key = row.key; info = info_of_row row }

-- what apcu_key_info returns about a row
abbrev pub note_fields : RowInfo → List (Key × Told)
note_fields row =
    info_field (codes "hits") (info_number row.hits)
    ∷ info_field (codes "access_time") (info_number row.atime)
    ∷ info_field (codes "mtime") (info_number row.mtime)
    ∷ info_field (codes "creation_time") (info_number row.ctime)
    ∷ info_field (codes "deletion_time") (info_number row.dtime)
    ∷ info_field (codes "ttl") (info_number row.ttl)
    ∷ []

abbrev pub info_of_key : RowInfo → Told
info_of_key row = info_array (note_fields row)

-- what the lists of apcu_cache_info have about a row
abbrev pub row_fields : ListedRow → List (Key × Told)
row_fields row =
    info_field (codes "info") (info_string row.key)
    ∷ info_field (codes "ttl") (info_number row.info.ttl)
    ∷ info_field (codes "num_hits") (info_number row.info.hits)
    ∷ info_field (codes "mtime") (info_number row.info.mtime)
    ∷ info_field (codes "creation_time") (info_number row.info.ctime)
    ∷ info_field (codes "deletion_time") (info_number row.info.dtime)
    ∷ info_field (codes "access_time") (info_number row.info.atime)
    ∷ info_field (codes "mem_size") (info_number (word_bytes row.info.size))
    ∷ []

abbrev pub info_row : ListedRow → Told
info_row row = info_array (row_fields row)

-- ---- a cache

-- what apcu_cache_info always returns, if the blocks of the rows have this many words
abbrev pub info_counts : Conf → Counts → ℕ → List (Key × Told)
info_counts conf counts words =
    info_field (codes "num_slots") (info_number conf.slots)
    ∷ info_field (codes "ttl") (info_number conf.ttl)
    ∷ info_field (codes "num_hits") (info_number counts.hits)
    ∷ info_field (codes "num_misses") (info_number counts.misses)
    ∷ info_field (codes "num_inserts") (info_number counts.inserts)
    ∷ info_field (codes "num_entries") (info_number counts.entries)
    ∷ info_field (codes "expunges") (info_number counts.expunges)
    ∷ info_field (codes "mem_size") (info_number (word_bytes words))
    ∷ []

-- and if it is not limited, the rows and the removed rows
abbrev pub info_rows : List ListedRow → List ListedRow → List (Key × Told)
info_rows rows removed =
    info_field (codes "cache_list") (info_list (map info_row rows))
    ∷ info_field (codes "deleted_list") (info_list (map info_row removed))
    ∷ []

-- the words of all blocks of the rows
abbrev pub row_words : Cache → ℕ
row_words c = sum_by (λ (row : Row). row.size) c.rows

-- ---- a segment

-- what apcu_sma_info always returns: the number of segments, the words of each, and how many of all
-- their words are free
abbrev pub info_words : Conf → ℕ → List (Key × Told)
info_words conf free =
    info_field (codes "num_seg") (info_number conf.segments)
    ∷ info_field (codes "seg_size") (info_number (word_bytes (piece_of conf)))
    ∷ info_field (codes "avail_mem") (info_number (word_bytes free))
    ∷ []

abbrev pub gap_fields : Extent → List (Key × Told)
gap_fields gap =
    info_field (codes "size") (info_number (word_bytes gap.size))
    ∷ info_field (codes "offset") (info_number (word_bytes gap.place))
    ∷ []

abbrev pub info_gap : Extent → Told
info_gap gap = info_array (gap_fields gap)

-- the gaps of the k-th segment of this many words, by their places in it
abbrev pub gaps_in : ℕ → List Extent → ℕ → List Extent
gaps_in piece gaps k =
    map (λ (gap : Extent). record { place = gap.place % piece; size = gap.size })
    (filter (λ (gap : Extent). gap.place / piece == k) gaps)

abbrev pub info_segment : ℕ → List Extent → ℕ → Told
info_segment piece gaps k = info_list (map info_gap (gaps_in piece gaps k))

-- and if it is not limited, the gaps of each segment
abbrev pub info_gaps : Conf → List Extent → List (Key × Told)
info_gaps conf gaps =
    info_field (codes "block_lists")
    (info_list (map (info_segment (piece_of conf) gaps) (range_with_len 0 conf.segments))) ∷ []

-- the runs of words that no block takes, those of removed rows included, by rising place
abbrev pub gaps_of : Cache → List Extent
gaps_of c =
    free_runs c.conf.slots c.conf.words (piece_of c.conf) (map extent_of (c.rows ++ c.removed))

abbrev pub gap_words_of : Cache → ℕ
gap_words_of c = sum_by (λ (gap : Extent). gap.size) (gaps_of c)

-- ---- the replies

-- of the row that a look-up of the key finds, if it finds one
abbrev pub key_info_of : List ℕ → ℕ → Cache → Option (List Kind)
key_info_of key t c = option_map (λ (row : Row). info_of_key (info_of_row row) 1) (live_row key t c)

-- Of the cache: its shape, its counters, and its rows, expired ones included. Unless limited, the
-- rows are listed by slot and place, and the removed rows as they were dropped.
abbrev pub cache_info_of : Bool → Cache → List Kind
cache_info_of limited c =
    let counts = info_counts c.conf (counts_of c) (row_words c) in
    let rows = map listed_of (in_slot_order c.conf c.rows) in
    let removed = map listed_of c.removed in
    info_array (if limited then counts else counts ++ info_rows rows removed) 1

-- Of the segments: their words and those that are free; unless limited also their gaps.
abbrev pub sma_info_of : Bool → Cache → List Kind
sma_info_of limited c =
    let words = info_words c.conf (gap_words_of c) in
    info_array (if limited then words else words ++ info_gaps c.conf (gaps_of c)) 1
