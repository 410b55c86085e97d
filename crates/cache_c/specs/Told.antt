-- Information about a cache, by numbers.
use Rattle.std.specs.Prelude.{◌≡◌, ◌≢◌, ℕ, ◌==◌, if◌then◌else◌, nat_lt, nat_le, min, ⊤, List, []}
use Rattle.std.specs.Prelude.{◌∷◌, length, map, filter, take, drop, Option, Some, None}
use Rattle.std.specs.Prelude.{◌+◌, ◌-◌, ◌<◌, ◌≤◌, zero, suc}
use Rattle.seg_words.specs.declared.gaps.Extent.{Extent}
use Rattle.apcu_model.specs.declared.row_info.RowInfo.{RowInfo}
use Rattle.apcu_model.specs.Cache.{Row, Cache}
use Rattle.apcu_model.specs.Expiry.{live_row}
use Rattle.apcu_model.specs.SlotOrder.{slot_of, is_in_slot}
use Rattle.apcu_model.specs.Infos.{info_of_row, row_words, gap_words_of}
use Rattle.cache_c.specs.declared.rows.ToldRow.{ToldRow}
use Rattle.cache_c.specs.declared.rows.Listing.{Listing}
use Rattle.cache_c.specs.declared.counts.ToldCounts.{ToldCounts}
use Rattle.cache_c.specs.declared.counts.Gap.{Gap}
use Rattle.cache_c.specs.Asked.{IsValueBy, is_short}
use Rattle.cache_c.specs.Standing.{StandAt}

-- ---- rows

-- the information about a row besides its key and its value, by these numbers
abbrev pub noted_by : ToldRow → RowInfo
noted_by told = record {
  ttl = told.ttl;
  ctime = told.ctime;
  mtime = told.mtime;
  atime = told.atime;
  dtime = told.dtime;
  hits = told.hits;
  size = told.size;
}

-- The numbers are those of this row of a list: the place of its block, its key by the place of its
-- bytes, what the information calls return of it, and its value.
pub record IsRowBy (words : List ℕ) (list : ℕ) (row : Row) (told : ToldRow) : Type 0 where
  pub place : told.place ≡ row.place
  pub some : told.place ≢ 0
  pub slot : told.slot ≡ list
  pub key_len : told.key_len ≡ length row.key
  pub key : StandAt words told.key_place row.key
  pub noted : noted_by told ≡ info_of_row row
  pub value : IsValueBy words row.graph told.value

-- the same for each of them and the row at its place in the list
abbrev pub AreRowsBy : List ℕ → ℕ → List Row → List ToldRow → Type 0
AreRowsBy words slot [] [] = ⊤
AreRowsBy words slot (row ∷ rows) (told ∷ tolds) =
    IsRowBy words slot row told × AreRowsBy words slot rows tolds
AreRowsBy words slot _ _ = ⊥

-- The first places of a slice have rows of a list, as many as there are and there is room for, and
-- the others are unchanged.
pub record AreListedBy (words : List ℕ) (slot : ℕ) (all : List Row) (old new : List ToldRow)
    (n : ℕ) : Type 0 where
  pub count : n ≡ min (length all) (length old)
  pub rows : AreRowsBy words slot (take n all) (take n new)
  pub others : drop n new ≡ drop n old

-- the rows of a list: a slot's, or after the slots the removed rows
abbrev pub rows_of : Cache → ℕ → List Row
rows_of c slot =
    if nat_lt slot c.conf.slots then filter (is_in_slot c.conf slot) c.rows else
    if slot == c.conf.slots then c.removed else []

-- A listing of this list, with none of its rows skipped, writes all of them, and would leave the
-- slice unchanged.
pub record IsWholeList (words : List ℕ) (c : Cache) (list : ℕ) (there : List ToldRow) (n : ℕ)
    : Type 0 where
  pub all : n ≡ length (rows_of c list)
  pub rows : AreListedBy words list (rows_of c list) there there n

-- the number of rows of the first lists from one on
abbrev pub rows_from : Cache → ℕ → ℕ → ℕ
rows_from c from zero = 0
rows_from c from (suc lists) = rows_from c from lists + length (rows_of c (from + lists))

-- Whole lists from one up to another are in the slice, each after those before it. The next one, if
-- it is still one of those requested, has more rows than there is room for.
pub record AreListsBy (words : List ℕ) (c : Cache) (from to : ℕ) (old new : List ToldRow)
    (listing : Listing) : Type 0 where
  pub lists : (i : ℕ) → from + i < listing.next
      → IsWholeList words c (from + i) (drop (rows_from c from i) new)
      (length (rows_of c (from + i)))
  pub count : listing.count ≡ rows_from c from (listing.next - from)
  pub fits : listing.count ≤ length old
  pub low : from ≤ to → from ≤ listing.next
  pub high : listing.next ≤ to
  pub full : listing.next < to
      → length old < listing.count + length (rows_of c listing.next)

-- the row that a look-up of a key finds; no key that is too long has one
abbrev pub found_row : List ℕ → ℕ → Cache → Option Row
found_row key t c = if is_short key then live_row key t c else None

-- the numbers are those of the key's row, or say that there is none
abbrev pub IsFoundBy : List ℕ → Cache → List ℕ → Option Row → ToldRow → Type 0
IsFoundBy words c key None told = told.place ≡ 0
IsFoundBy words c key (Some row) told = IsRowBy words (slot_of c.conf key) row told

-- ---- counts

-- the counters of a cache, the words of the blocks of its rows, and those of its gaps
abbrev pub counts_told : Cache → ToldCounts
counts_told c = record {
  hits = c.hits;
  misses = c.misses;
  inserts = c.inserts;
  expunges = c.expunges;
  entries = length c.rows;
  row_words = row_words c;
  free_words = gap_words_of c;
}

-- ---- gaps

-- a gap by its numbers
abbrev pub gap_told : Extent → Gap
gap_told gap = record { place = gap.place; size = gap.size }

-- those of the gaps that begin at or after a place
abbrev pub gaps_from : ℕ → List Extent → List Extent
gaps_from from gaps = filter (λ gap. nat_le from gap.place) gaps

-- The first places of a slice have gaps of a list, as many as there are and there is room for, and
-- the others are unchanged.
pub record AreGapsBy (all : List Extent) (old new : List Gap) (n : ℕ) : Type 0 where
  pub count : n ≡ min (length all) (length old)
  pub gaps : take n new ≡ map gap_told (take n all)
  pub others : drop n new ≡ drop n old
