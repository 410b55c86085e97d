-- The rows of a cache and its counters.
use Rattle.std.specs.Prelude.{ℕ, ◌+◌, ◌-◌, ◌^◌, min, Bool, List, [], ◌++◌, length, map, Option}
use Rattle.std.specs.Str.{bytes_eq}
use Rattle.php_graph.specs.declared.kind.Kind.{Kind}
use Rattle.seg_words.specs.declared.gaps.Extent.{Extent}
use Rattle.seg_words.specs.Gaps.{first_fit}
use Rattle.apcu_model.specs.declared.conf.Conf.{Conf}
use Rattle.apcu_model.specs.Conf.{piece_of}
use Rattle.apcu_model.specs.declared.row_info.Counts.{Counts}

-- A key with its value. Times are in seconds, places and sizes in words.
pub record Row : Type 0 where
  pub key : List ℕ
  pub graph : List Kind
  -- how long it lives after its creation; 0 is no limit
  pub ttl : ℕ
  -- created, changed, used, and for a removed row dropped
  pub ctime : ℕ
  pub mtime : ℕ
  pub atime : ℕ
  pub dtime : ℕ
  -- how often it was fetched
  pub hits : ℕ
  -- its block in the segment
  pub place : ℕ
  pub size : ℕ
  -- rows are numbered in the order in which they are stored
  pub number : ℕ

-- A cache: its rows in order, no two with the same key; the rows that were dropped while a worker
-- copied them, whose blocks are still taken; the next row's number; and its counters.
pub record Cache : Type 0 where
  pub conf : Conf
  pub rows : List Row
  pub removed : List Row
  pub next_number : ℕ
  pub hits : ℕ
  pub misses : ℕ
  pub inserts : ℕ
  pub expunges : ℕ

abbrev pub empty_cache : Conf → Cache
empty_cache conf = record {
  conf = conf;
  rows = [];
  removed = [];
  next_number = 1;
  hits = 0;
  misses = 0;
  inserts = 0;
  expunges = 0;
}

-- its counters, and its rows
abbrev pub counts_of : Cache → Counts
counts_of c = record {
  hits = c.hits;
  misses = c.misses;
  inserts = c.inserts;
  expunges = c.expunges;
  entries = length c.rows;
}

-- one more, but a counter stops at the maximum of 64 bits
abbrev pub risen : ℕ → ℕ
risen n = min (n + 1) (2 ^ 64 - 1)

-- the row has this key
abbrev pub has_key : List ℕ → Row → Bool
has_key key row = bytes_eq row.key key

abbrev pub extent_of : Row → Extent
extent_of row = record { place = row.place; size = row.size }

-- the lowest place where a block of n words fits in one segment outside the blocks of all rows,
-- also of removed ones
abbrev pub gap_of : Cache → ℕ → Option ℕ
gap_of c n =
    first_fit c.conf.slots c.conf.words (piece_of c.conf) n (map extent_of (c.rows ++ c.removed))
