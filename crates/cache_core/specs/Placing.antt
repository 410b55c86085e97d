-- A new row that replaces the row of its key.
use Rattle.std.specs.Prelude.{◌≡◌, ℕ, ◌==◌, not, List, ◌++◌, length, map, filter}
use Rattle.seg_words.specs.Windows.{Aside, held_blocks}
use Rattle.php_graph.specs.declared.kind.Kind.{Kind}
use Rattle.php_graph.specs.Size.{block_size}
use Rattle.apcu_model.specs.Cache.{Row, Cache, risen, has_key}
use Rattle.apcu_model.specs.Change.{is_held, with_row, placed}
use Rattle.entry_slots.specs.Entries.{Entries, entries_of, with_taken, stored_row}
use Rattle.seg_words.specs.Probing.{Goes}
use Rattle.ttl_expunge.specs.ProbedRows.{AreDecided, AreRemoved, AreHeld, KeepsOpen}

-- the new row is in the block that was taken for it, and the old row of the key was dropped
abbrev pub replaced_in : List ℕ → ℕ → List ℕ → List Kind → ℕ → ℕ → Entries → Entries
replaced_in held at key graph ttl t s = record s {
  rows = with_row (stored_row key graph ttl t at s.next_number) s.rows;
  removed = s.removed
      ++ map {A = Row} (λ row. record row { dtime = t })
      (filter (is_held held) (filter (has_key key) s.rows));
  next_number = risen s.next_number;
  taken = filter (λ block. not (block.place == at)) s.taken;
}

-- the same, with the blocks that are held when the call returns
pub record Replaces (old new : Entries) (before after : Aside)
    (at : ℕ) (key : List ℕ) (graph : List Kind) (ttl t : ℕ) : Type 0 where
  pub replaced : new ≡ replaced_in (held_blocks after) at key graph ttl t old
  pub goes : Goes before after
  pub decided : AreDecided after (filter (has_key key) old.rows)
  pub refused : AreRemoved after new.removed

-- The new row was put into the block that was taken for it, by the blocks that are held now or
-- after later probes of the event.
pub record Puts (old new : Entries) (before after : Aside)
    (at : ℕ) (key : List ℕ) (graph : List Kind) (ttl t : ℕ) : Type 0 where
  pub placed_is : (c : Cache) (later : Aside)
      → old ≡ with_taken at (block_size (length key) graph) (entries_of c) → Goes after later
      → let n = block_size (length key) graph in
      new ≡ entries_of (placed (held_blocks later) key graph ttl t n c at)
  pub goes : Goes before after
  pub keeps : KeepsOpen after.windows old new
  pub refused : AreRemoved after new.removed
  pub held : AreHeld before old.removed → AreHeld after new.removed
