-- What entries in hash chains represent: the rows and removed rows of a cache, and the blocks that
-- are temporarily in no list; and how the calls change them.
use Rattle.std.specs.Prelude.{◌≡◌, ℕ, ◌<◌, ◌==◌, not, if◌then◌else◌, List, [], ◌∷◌, ◌++◌, length}
use Rattle.std.specs.Prelude.{map, filter, find, Contains, ℤ, Option, Some, None, option_map}
use Rattle.seg_words.specs.declared.gaps.Extent.{Extent}
use Rattle.seg_words.specs.Gaps.{first_fit}
use Rattle.php_graph.specs.declared.kind.Kind.{Kind}
use Rattle.php_graph.specs.declared.kind.Kind.TheVariants as kinds
use Rattle.php_graph.specs.Graph.{kind_at}
use Rattle.php_graph.specs.Size.{block_size}
use Rattle.apcu_model.specs.Conf.{piece_of}
use Rattle.apcu_model.specs.declared.conf.Conf.{Conf}
use Rattle.apcu_model.specs.Cache.{Row, Cache, risen, has_key, extent_of}
use Rattle.apcu_model.specs.Change.{with_row}
use Rattle.apcu_model.specs.Sequential.{touched}
use Rattle.apcu_model.specs.SlotOrder.{is_in_slot}
use Rattle.entry_slots.specs.Lists.{is_at, only_at, without_place, FollowsIn}

pub record Entries : Type 0 where
  pub conf : Conf
  -- the rows and the removed rows of the cache
  pub rows : List Row
  pub removed : List Row
  pub next_number : ℕ
  -- rows that were taken out of their chain, and are not removed or freed yet
  pub unlinked : List Row
  -- blocks that were taken, and belong to no row yet
  pub taken : List Extent

-- no row, in a segment of this shape
abbrev pub no_entries : Conf → Entries
no_entries conf = record {
  conf = conf;
  rows = [];
  removed = [];
  next_number = 1;
  unlinked = [];
  taken = [];
}

-- the entries of a cache in which no block is loose
abbrev pub entries_of : Cache → Entries
entries_of c = record {
  conf = c.conf;
  rows = c.rows;
  removed = c.removed;
  next_number = c.next_number;
  unlinked = [];
  taken = [];
}

-- no block is loose
abbrev pub IsWhole : Entries → Type 0
IsWhole s = (s.unlinked ≡ []) × (s.taken ≡ [])

-- the rows of one hash chain, in their order
abbrev pub chain_of : Entries → ℕ → List Row
chain_of s slot = filter (is_in_slot s.conf slot) s.rows

-- the rows and the removed rows
abbrev pub listed : Entries → List Row
listed s = s.rows ++ s.removed

-- the rows that are in no chain any more
abbrev pub loose : Entries → List Row
loose s = s.unlinked ++ s.removed

-- all blocks
abbrev pub blocks_of : Entries → List Extent
blocks_of s =
    map extent_of s.rows ++ (map extent_of s.removed ++ (map extent_of s.unlinked ++ s.taken))

-- the lowest place at which n words fit outside all blocks and inside one segment
abbrev pub place_for : ℕ → Entries → Option ℕ
place_for n s = first_fit s.conf.slots s.conf.words (piece_of s.conf) n (blocks_of s)

-- the block at `at` for a key and a value
abbrev pub block_for : ℕ → List ℕ → List Kind → Extent
block_for at key g = record { place = at; size = block_size (length key) g }

-- one of the rows or removed rows, and its block is at this place
pub record IsListed (s : Entries) (at : ℕ) (row : Row) : Type 0 where
  pub there : Contains (listed s) row
  pub place : row.place ≡ at

-- the row at this place holds an integer
pub record HoldsInt (s : Entries) (at : ℕ) : Type 0 where
  pub row : Row
  pub there : Contains s.rows row
  pub place : row.place ≡ at
  pub number : ℤ
  pub int : kind_at row.graph 1 ≡ Some (kinds.Int number)

-- `next` is the place that follows `at` in the chain of its slot, or 0
abbrev pub FollowsInChain : Entries → ℕ → ℕ → Type 0
FollowsInChain s at next = (slot : ℕ) → slot < s.conf.slots → FollowsIn (chain_of s slot) at next

-- one more block that belongs to no row
abbrev pub with_taken : ℕ → ℕ → Entries → Entries
with_taken at n s = record s { taken = record { place = at; size = n } ∷ s.taken }

-- a new row
abbrev pub stored_row : List ℕ → List Kind → ℕ → ℕ → ℕ → ℕ → Row
stored_row key graph ttl t at number = record {
  key = key;
  graph = graph;
  ttl = ttl;
  ctime = t;
  mtime = t;
  atime = t;
  dtime = 0;
  hits = 0;
  place = at;
  size = block_size (length key) graph;
  number = number;
}

-- the place of the row that was found, or 0
abbrev pub found_place : Option Row → ℕ
found_place None = 0
found_place (Some row) = row.place

-- the place of the row of a key, if there is one
abbrev pub place_of : List ℕ → Entries → Option ℕ
place_of key s = option_map (λ (row : Row). row.place) (find (has_key key) s.rows)

-- the same, or 0 if there is none
abbrev pub old_place : List ℕ → Entries → ℕ
old_place key s = found_place (find (has_key key) s.rows)

-- A new row in the block at `at`, which was taken: it replaces the row of its key, whose block is
-- loose now, or is last if there is none.
abbrev pub linked : ℕ → List ℕ → List Kind → ℕ → ℕ → Entries → Entries
linked at key graph ttl t s = record s {
  rows = with_row (stored_row key graph ttl t at s.next_number) s.rows;
  next_number = risen s.next_number;
  unlinked = filter (has_key key) s.rows ++ s.unlinked;
  taken = filter (λ block. not (block.place == at)) s.taken;
}

-- the row at this place is in no chain any more
abbrev pub unlinked_at : ℕ → Entries → Entries
unlinked_at at s = record s {
  rows = without_place at s.rows;
  unlinked = only_at at s.rows ++ s.unlinked;
}

-- the row at this place was dropped at the moment t
abbrev pub dated_row : ℕ → ℕ → Row → Row
dated_row at t row = if is_at at row then (record row { dtime = t }) else row

-- the unlinked row at this place is dated
abbrev pub dated_at : ℕ → ℕ → Entries → Entries
dated_at at t s = record s { unlinked = map {A = Row} {B = Row} (dated_row at t) s.unlinked }

-- the unlinked row at this place is the last of the removed rows, dropped at the moment t
abbrev pub removed_at : ℕ → ℕ → Entries → Entries
removed_at at t s = record s {
  removed = s.removed ++ map {A = Row} (λ row. record row { dtime = t }) (only_at at s.unlinked);
  unlinked = without_place at s.unlinked;
}

-- the unlinked row at this place is the last of the removed rows
abbrev pub moved_at : ℕ → Entries → Entries
moved_at at s = record s {
  removed = s.removed ++ only_at at s.unlinked;
  unlinked = without_place at s.unlinked;
}

-- the row at this place is not a removed one any more, and its block is not freed yet
abbrev pub off_at : ℕ → Entries → Entries
off_at at s = record s {
  removed = without_place at s.removed;
  unlinked = only_at at s.removed ++ s.unlinked;
}

-- the unlinked row at this place and its block were freed
abbrev pub given_at : ℕ → Entries → Entries
given_at at s = record s { unlinked = without_place at s.unlinked }

-- the unlinked or removed row at this place and its block were freed
abbrev pub freed_at : ℕ → Entries → Entries
freed_at at s = record s {
  removed = without_place at s.removed;
  unlinked = without_place at s.unlinked;
}

-- the row at this place is not a row any more, and is the last of the removed ones
abbrev pub dropped_at : ℕ → ℕ → Entries → Entries
dropped_at at t s = record s {
  rows = without_place at s.rows;
  removed = s.removed ++ map {A = Row} (λ row. record row { dtime = t }) (only_at at s.rows);
}

-- the row at this place and its block were freed
abbrev pub gone_at : ℕ → Entries → Entries
gone_at at s = record s { rows = without_place at s.rows }

-- all rows and their blocks were freed
abbrev pub without_rows : Entries → Entries
without_rows s = record s { rows = [] }

-- the row at this place was used
abbrev pub touched_row : ℕ → ℕ → Row → Row
touched_row at t row = if is_at at row then touched t row else row

abbrev pub touched_in : ℕ → ℕ → Entries → Entries
touched_in at t s = record s { rows = map {A = Row} {B = Row} (touched_row at t) s.rows }

-- the row at this place holds the integer n
abbrev pub number_row : ℕ → ℤ → ℕ → Row → Row
number_row at n t row =
    if is_at at row then (record row { graph = kinds.Int n ∷ []; mtime = t }) else row

abbrev pub with_number : ℕ → ℤ → ℕ → Entries → Entries
with_number at n t s = record s { rows = map {A = Row} {B = Row} (number_row at n t) s.rows }
