-- The laws of this crate, as records that callers pass on.
use Rattle.apcu_model.specs.Cache.{Row}
use Rattle.entry_slots.specs.Entries.{Entries}
use Rattle.entry_slots.specs.Facts.{IsSound}
use Rattle.seg_words.specs.Probing.{Goes}
use Rattle.seg_words.specs.Windows.{Aside, held_blocks}
use Rattle.std.specs.Prelude.{Contains, List, ℕ, ◌≡◌}
use Rattle.ttl_expunge.specs.Dropping.{dropped_rows}
use Rattle.ttl_expunge.specs.ProbedRows.{AreHeld, Drops, KeepsOpen}

-- what follows when rows were dropped
pub record DropLaws : Type 0 where
  pub later : (s new : Entries) (before after later : Aside) (t : ℕ) (gone : List Row)
      → Drops s new before after t gone → Goes after later → new
      ≡ dropped_rows (held_blocks later) t gone s
  pub keeps :
      (s new : Entries) (words windows : List ℕ) (before after : Aside) (t : ℕ) (gone : List Row)
      → IsSound s words windows → ((row : Row) → Contains gone row → Contains s.rows row)
      → Drops s new before after t gone → KeepsOpen after.windows s new
  pub held : (s new : Entries) (before after : Aside) (t : ℕ) (gone : List Row)
      → Drops s new before after t gone → AreHeld before s.removed → AreHeld after new.removed
  pub joined : (old mid new : Entries) (between after : Aside) → Goes between after
      → KeepsOpen between.windows old mid → KeepsOpen after.windows mid new
      → KeepsOpen after.windows old new
