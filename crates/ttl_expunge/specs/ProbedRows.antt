-- How the probes of an event change what a segment has besides its words.
use Rattle.std.specs.Prelude.{◌≡◌, ℕ, true, List, ◌++◌, Contains, filter}
use Rattle.seg_words.specs.Probing.{Goes, IsDecided}
use Rattle.apcu_model.specs.Change.{is_held}
use Rattle.seg_words.specs.Windows.{Aside, has, is_named, held_blocks}
use Rattle.apcu_model.specs.Cache.{Row}
use Rattle.entry_slots.specs.Lists.{has_place}
use Rattle.entry_slots.specs.Entries.{Entries}
use Rattle.ttl_expunge.specs.Dropping.{swept_in, dropped_rows}

-- for each of these rows it is decided whether it is held
pub record AreDecided (aside : Aside) (rows : List Row) : Type 0 where
  pub each : (row : Row) → Contains rows row → IsDecided aside row.place

-- only places of removed rows are refused
pub record AreRemoved (aside : Aside) (removed : List Row) : Type 0 where
  pub each : (b : ℕ) → has b aside.refused ≡ true → has_place b removed ≡ true

-- each of these rows is held: none of them would be swept
pub record AreHeld (aside : Aside) (rows : List Row) : Type 0 where
  pub each : (row : Row) → Contains rows row → has row.place (held_blocks aside) ≡ true

-- the rows under the windows that are still open exist, with their places and numbers
pub record KeepsOpen (windows : List ℕ) (old new : Entries) : Type 0 where
  pub each : (row : Row) → Contains (old.rows ++ old.removed) row
      → is_named windows row.place ≡ true
      → (kept : Row) × Contains (new.rows ++ new.removed) kept
      × (kept.place ≡ row.place) × (kept.number ≡ row.number)

-- The removed rows were swept: those that are held after the call are left.
pub record Sweeps (old new : Entries) (before after : Aside) : Type 0 where
  pub swept : new ≡ swept_in (held_blocks after) old
  pub goes : Goes before after
  pub decided : AreDecided after old.removed
  pub refused : AreRemoved after new.removed

-- These rows were dropped, one after the other: those that are held after the call are the last of
-- the removed rows.
pub record Drops (old new : Entries) (before after : Aside) (t : ℕ) (gone : List Row) : Type 0 where
  pub dropped : new ≡ dropped_rows (held_blocks after) t gone old
  pub goes : Goes before after
  pub decided : AreDecided after gone
  pub refused : AreRemoved after new.removed

-- These rows were probed, and those of them that are held were moved to the removed ones. The
-- others are still rows, and no window names their blocks.
pub record Moves (old new : Entries) (before after : Aside) (t : ℕ) (seen : List Row) : Type 0 where
  pub drops : Drops old new before after t (filter (is_held (held_blocks after)) seen)
  pub decided : AreDecided after seen
