-- How rows are dropped from a cache, how room is made, and how a row is added. `held` is the list
-- of the places of blocks that a worker copies: a row that is held keeps its block when it is
-- dropped.
use Rattle.std.specs.Prelude.{◌≡◌, ℕ, ◌==◌, ◌&&◌, not, nat_lt, Bool, if◌then◌else◌, List}
use Rattle.std.specs.Prelude.{[], ◌∷◌, ◌++◌, length, map, filter, Option, Some, None, is_some}
use Rattle.std.specs.List.{list_any}
use Rattle.php_graph.specs.declared.kind.Kind.{Kind}
use Rattle.php_graph.specs.Size.{block_size}
use Rattle.apcu_model.specs.Conf.{most_of}
use Rattle.apcu_model.specs.declared.conf.Conf.{Conf}
use Rattle.apcu_model.specs.declared.request.StoreAnswer.{StoreAnswer}
use Rattle.apcu_model.specs.declared.request.StoreAnswer.TheVariants.{TooLarge, Exists, NoRoom}
use Rattle.apcu_model.specs.declared.request.StoreAnswer.TheVariants.{Stored}
use Rattle.apcu_model.specs.Cache.{Row, Cache, risen, has_key, gap_of}
use Rattle.apcu_model.specs.Expiry.{is_expired, live_row}
use Rattle.apcu_model.specs.SlotOrder.{is_in_slot, in_slot_order, slot_of}

abbrev pub is_held : List ℕ → Row → Bool
is_held held row = list_any (λ place. place == row.place) held

-- the same places are in both lists
abbrev pub AreAlike : List ℕ → List ℕ → Type 0
AreAlike held other =
    (at : ℕ) → list_any (λ place. place == at) held ≡ list_any (λ place. place == at) other

-- the order in which rows are dropped: by slot and place
unfoldable pub leaving : Conf → List Row → List Row
leaving conf rows = in_slot_order conf rows

-- a row of the same key is one of these
unfoldable pub is_among : List Row → Row → Bool
is_among gone row = list_any (has_key row.key) gone

-- the rows that are left without these
abbrev pub left_of : List Row → List Row → List Row
left_of gone rows = filter (λ row. not (is_among gone row)) rows

-- the removed rows after these were dropped: those of them that are held come last, with the time
abbrev pub removed_with : List ℕ → ℕ → List Row → List Row → List Row
removed_with held t gone removed =
    removed ++ map {A = Row} (λ row. record row { dtime = t }) (filter (is_held held) gone)

-- These rows are dropped from the rows, one after the other. Those of them that are held become
-- removed rows; the others are freed.
abbrev pub dropped : List ℕ → ℕ → List Row → Cache → Cache
dropped held t gone c = record c {
  rows = left_of gone c.rows;
  removed = removed_with held t gone c.removed;
}

-- without the removed rows from which no worker copies any more
abbrev pub swept : List ℕ → Cache → Cache
swept held c = record c { removed = filter (is_held held) c.removed }

-- which rows are dropped to make room: all expired ones, if the cache has a ttl
abbrev pub spent : Conf → ℕ → List Row → List Row
spent conf t rows = if nat_lt 0 conf.ttl then leaving conf (filter (is_expired conf t) rows) else []

-- they are dropped, and no counter changes
abbrev pub expired_dropped : List ℕ → ℕ → Cache → Cache
expired_dropped held t c = dropped held t (spent c.conf t c.rows) c

-- all rows are dropped, and all counters except the number of expunges begin at 0 again
abbrev pub expunged : List ℕ → ℕ → Cache → Cache
expunged held t c = record (dropped held t (leaving c.conf c.rows) c) {
  hits = 0;
  misses = 0;
  inserts = 0;
  expunges = risen c.expunges;
}

-- the row that a look-up of the key finds is dropped
abbrev pub deleted : List ℕ → List ℕ → ℕ → Cache → Cache
deleted held key t c =
    if is_some (live_row key t c) then dropped held t (filter (has_key key) c.rows) c else c

-- all rows are dropped, and all counters begin at 0 again
abbrev pub cleared : List ℕ → ℕ → Cache → Cache
cleared held t c = record (dropped held t (leaving c.conf c.rows) c) {
  hits = 0;
  misses = 0;
  inserts = 0;
  expunges = 0;
}

abbrev pub has_gap : ℕ → Cache → Bool
has_gap n c = is_some (gap_of c n)

-- Room for a block of n words: the removed rows are swept; if no gap is large enough yet, expired
-- rows are dropped; and if none is large enough even then, all rows.
abbrev pub with_room : List ℕ → ℕ → ℕ → Cache → Cache
with_room held n t c =
    let first = swept held c in
    let second = expired_dropped held t first in
    if has_gap n first then first else if has_gap n second then second else expunged held t second

-- all rows had to be dropped for it: no gap was large enough, not even after the expired rows were
abbrev pub is_expunged : List ℕ → ℕ → ℕ → Cache → Bool
is_expunged held n t c =
    not (has_gap n (swept held c)) && not (has_gap n (expired_dropped held t (swept held c)))

-- the counters are unchanged
pub record KeepsCounts (old new : Cache) : Type 0 where
  pub hits : new.hits ≡ old.hits
  pub misses : new.misses ≡ old.misses
  pub inserts : new.inserts ≡ old.inserts
  pub expunges : new.expunges ≡ old.expunges

-- they begin at 0 again, except for one more expunge
pub record ForgetsCounts (old new : Cache) : Type 0 where
  pub hits : new.hits ≡ 0
  pub misses : new.misses ≡ 0
  pub inserts : new.inserts ≡ 0
  pub expunges : new.expunges ≡ risen old.expunges

-- the row replaces the row of its key, or is last if there is none
abbrev pub with_row : Row → List Row → List Row
with_row new rows =
    if list_any (has_key new.key) rows
    then map {A = Row} (λ row. if has_key new.key row then new else row) rows
    else rows ++ new ∷ []

-- what storing results in: the answer, and the cache after it
pub record Insertion : Type 0 where
  pub answer : StoreAnswer
  pub cache : Cache

-- the expired rows of a slot
abbrev pub expired_in : Conf → ℕ → ℕ → List Row → List Row
expired_in conf t slot rows = filter (is_expired conf t) (filter (is_in_slot conf slot) rows)

-- A new row at a place where it fits: the expired rows of its slot are dropped, and it replaces the
-- old row of its key, which is dropped.
abbrev pub placed : List ℕ → List ℕ → List Kind → ℕ → ℕ → ℕ → Cache → ℕ → Cache
placed held key graph ttl t n c place =
    let after_sweep = dropped held t (expired_in c.conf t (slot_of c.conf key) c.rows) c in
    let new : Row = record {
      key = key;
      graph = graph;
      ttl = ttl;
      ctime = t;
      mtime = t;
      atime = t;
      dtime = 0;
      hits = 0;
      place = place;
      size = n;
      number = c.next_number;
    } in
    record (dropped held t (filter (has_key key) after_sweep.rows) after_sweep) {
      rows = with_row new after_sweep.rows;
      next_number = risen c.next_number;
      inserts = risen c.inserts;
    }

-- after room was made
abbrev pub put_in : List ℕ → List ℕ → List Kind → ℕ → ℕ → ℕ → Cache → Option ℕ → Insertion
put_in held key graph ttl t n c None = record { answer = NoRoom; cache = c }
put_in held key graph ttl t n c (Some place) = record {
  answer = Stored;
  cache = placed held key graph ttl t n c place;
}

-- A value is stored under a key: never one that the empty segments could not take; with `exclusive`
-- never over a live row; otherwise after room was made, with the old row's block still taken.
abbrev pub inserted : List ℕ → List ℕ → List Kind → ℕ → Bool → ℕ → Cache → Insertion
inserted held key graph ttl exclusive t c =
    let n = block_size (length key) graph in
    let room = with_room held n t c in
    if nat_lt (most_of c.conf) n then record { answer = TooLarge; cache = c }
    else if exclusive && is_some (live_row key t c) then record { answer = Exists; cache = c }
    else put_in held key graph ttl t n room (gap_of room n)
