-- What an iterator returns, step by step, and the replies of the related calls.
use Rattle.std.specs.Prelude.{ℕ, ◌-◌, ◌^◌, ◌==◌, ◌&&◌, not, nat_le, min, Bool}
use Rattle.std.specs.Prelude.{if◌then◌else◌, List, length, map, filter, sum_by, Option, Some, None}
use Rattle.std.specs.Prelude.{unwrap_or, find}
use Rattle.std.specs.Int.{bit_at}
use Rattle.std.specs.List.{flat_map, range_with_len}
use Rattle.apcu_model.specs.declared.searching.Pattern.{Pattern}
use Rattle.apcu_model.specs.declared.searching.List.{List as RowList}
use Rattle.apcu_model.specs.declared.searching.List.TheVariants.{Active, Deleted}
use Rattle.apcu_model.specs.declared.searching.Fields.{Fields}
use Rattle.apcu_model.specs.declared.items.ItemRow.{ItemRow}
use Rattle.apcu_model.specs.declared.items.Chunk.{Chunk}
use Rattle.apcu_model.specs.declared.request.Reply.{Reply}
use Rattle.apcu_model.specs.declared.request.Reply.TheVariants as replies
use Rattle.apcu_model.specs.Cache.{Row, Cache}
use Rattle.apcu_model.specs.Expiry.{is_hard_expired}
use Rattle.apcu_model.specs.Change.{dropped}
use Rattle.apcu_model.specs.Infos.{word_bytes}
use Rattle.apcu_model.specs.PatternMatches.{key_matches}
use Rattle.apcu_model.specs.SlotOrder.{is_in_slot}

-- the value is selected
abbrev pub tells_value : Fields → Bool
tells_value fields = bit_at fields.0 1 == 1

-- the item of a row
abbrev pub item_of : Fields → Row → ItemRow
item_of fields row = record {
  key = row.key;
  value = if tells_value fields then Some row.graph else None;
  hits = row.hits;
  mtime = row.mtime;
  ctime = row.ctime;
  dtime = row.dtime;
  atime = row.atime;
  size = word_bytes row.size;
  ttl = row.ttl;
}

-- ---- the active rows

-- the row has not expired, and its key matches
abbrev pub is_item : Option Pattern → ℕ → Row → Bool
is_item wanted t row = not (is_hard_expired t row) && key_matches wanted row.key

-- those of a slot, in the order of the list
abbrev pub slot_items : Option Pattern → ℕ → Cache → ℕ → List Row
slot_items wanted t c slot = filter (is_item wanted t) (filter (is_in_slot c.conf slot) c.rows)

-- those of the slots from one on to before another
abbrev pub items_between : Option Pattern → ℕ → Cache → ℕ → ℕ → List Row
items_between wanted t c from upto =
    flat_map (slot_items wanted t c) (range_with_len from (upto - from))

-- The end of a step from a slot on, of at least this many items: as few slots as hold that many, or
-- all slots that are left. It is the first slot after them.
abbrev pub chunk_end : Option Pattern → ℕ → Cache → ℕ → ℕ → ℕ
chunk_end wanted t c from size =
    unwrap_or
    (find (λ upto. nat_le size (length (items_between wanted t c from upto)))
    (range_with_len from (c.conf.slots - from)))
    c.conf.slots

-- the rows of the step
abbrev pub chunk_rows : Option Pattern → ℕ → Cache → ℕ → ℕ → List Row
chunk_rows wanted t c from size =
    items_between wanted t c from (chunk_end wanted t c from size)

-- ---- the removed rows

-- those whose keys match, in the order in which they were dropped
abbrev pub removed_items : Option Pattern → Cache → List Row
removed_items wanted c = filter (λ (row : Row). key_matches wanted row.key) c.removed

-- ---- the replies

-- One step of an iterator. All removed rows are one step.
abbrev pub chunk_of : Option Pattern → ℕ → ℕ → RowList → Fields → ℕ → Cache → Chunk
chunk_of wanted from size Active fields t c = record {
  next = chunk_end wanted t c from size;
  items = map (item_of fields) (chunk_rows wanted t c from size);
}
chunk_of wanted from size Deleted fields t c = record {
  next = c.conf.slots;
  items = map (item_of fields) (removed_items wanted c);
}

-- the rows of a step over the active rows are dropped
abbrev pub chunk_dropped : List ℕ → Option Pattern → ℕ → ℕ → ℕ → Cache → Cache
chunk_dropped held wanted from size t c = dropped held t (chunk_rows wanted t c from size) c

-- all rows of an iterator
abbrev pub all_items : Option Pattern → RowList → ℕ → Cache → List Row
all_items wanted Active t c = filter (is_item wanted t) c.rows
all_items wanted Deleted t c = removed_items wanted c

-- their number, the sum of their hits, as far as 64 bits can hold it, and the bytes of their blocks
abbrev pub totals_of : List Row → Reply
totals_of rows =
    replies.Totals (length rows) (min (sum_by (λ (row : Row). row.hits) rows) (2 ^ 64 - 1))
    (word_bytes (sum_by (λ (row : Row). row.size) rows))
