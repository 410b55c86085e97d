-- How rows are dropped from the entries.
use Rattle.std.specs.Prelude.{ℕ, if◌then◌else◌, List, filter}
use Rattle.seg_words.specs.Windows.{has}
use Rattle.apcu_model.specs.Cache.{Row}
use Rattle.apcu_model.specs.Change.{is_held, leaving, left_of, removed_with, spent}
use Rattle.apcu_model.specs.Expiry.{is_expired}
use Rattle.entry_slots.specs.Entries.{Entries, chain_of, freed_at}

-- without the removed rows from which no worker copies any more
abbrev pub swept_in : List ℕ → Entries → Entries
swept_in held s = record s { removed = filter (is_held held) s.removed }

-- without the removed row at this place, if it is not held
abbrev pub swept_at : List ℕ → ℕ → Entries → Entries
swept_at held at s = if has at held then s else freed_at at s

-- without these rows, dropped one after the other, as `dropped` defines it for a cache
abbrev pub dropped_rows : List ℕ → ℕ → List Row → Entries → Entries
dropped_rows held t gone s = record s {
  rows = left_of gone s.rows;
  removed = removed_with held t gone s.removed;
}

-- all rows, in the order in which they are dropped
abbrev pub all_rows : Entries → List Row
all_rows s = leaving s.conf s.rows

-- the expired ones of them
abbrev pub expired_rows : ℕ → Entries → List Row
expired_rows t s = leaving s.conf (filter (is_expired s.conf t) s.rows)

-- the expired ones of one slot
abbrev pub expired_in : ℕ → ℕ → Entries → List Row
expired_in t slot s = filter (is_expired s.conf t) (chain_of s slot)

-- those that are dropped to make room
abbrev pub spent_rows : ℕ → Entries → List Row
spent_rows t s = spent s.conf t s.rows
