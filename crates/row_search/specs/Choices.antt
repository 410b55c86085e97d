-- Which rows an iterator returns.
use Rattle.std.specs.Prelude.{ℕ, ◌&&◌, not, Bool, false, List, filter, map, Option}
use Rattle.apcu_model.specs.declared.searching.Pattern.{Pattern}
use Rattle.apcu_model.specs.declared.searching.List.{List as RowList}
use Rattle.apcu_model.specs.declared.searching.List.TheVariants.{Active, Deleted}
use Rattle.apcu_model.specs.declared.searching.Fields.{Fields}
use Rattle.apcu_model.specs.declared.items.ItemRow.{ItemRow}
use Rattle.apcu_model.specs.Cache.{Row, Cache}
use Rattle.apcu_model.specs.Chunks.{item_of}
use Rattle.apcu_model.specs.Expiry.{is_hard_expired}
use Rattle.apcu_model.specs.PatternMatches.{key_matches}
use Rattle.entry_slots.specs.Entries.{Entries}
use Rattle.ttl_expunge.specs.Lists.{row_places}

-- those of a list at the moment t whose keys match
pub record Choice : Type 0 where
  pub pattern : Option Pattern
  pub list : RowList
  pub t : ℕ

-- the row is skipped because its own ttl has expired; this happens only in the list of active rows
abbrev pub is_skipped_in : RowList → ℕ → Row → Bool
is_skipped_in Active t row = is_hard_expired t row
is_skipped_in Deleted t row = false

abbrev pub is_left_out : Choice → Row → Bool
is_left_out choice row = is_skipped_in choice.list choice.t row

-- an iterator returns the row
abbrev pub is_chosen : Choice → Row → Bool
is_chosen choice row = not (is_left_out choice row) && key_matches choice.pattern row.key

-- what it returns of rows
abbrev pub chosen_items : Choice → Fields → List Row → List ItemRow
chosen_items choice fields rows = map (item_of fields) (filter (is_chosen choice) rows)

-- the places of the rows that it returns
abbrev pub chosen_places : Choice → List Row → List ℕ
chosen_places choice rows = row_places (filter (is_chosen choice) rows)

-- a cache with these entries, in which nothing was counted
abbrev pub uncounted : Entries → Cache
uncounted s = record {
  conf = s.conf;
  rows = s.rows;
  removed = s.removed;
  next_number = s.next_number;
  hits = 0;
  misses = 0;
  inserts = 0;
  expunges = 0;
}

-- the rows of a list
abbrev pub rows_in : RowList → Entries → List Row
rows_in Active s = s.rows
rows_in Deleted s = s.removed
