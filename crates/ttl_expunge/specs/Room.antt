-- Room for a block, in entries.
use Rattle.std.specs.Prelude.{◌≡◌, ℕ, Bool, Option, Some, None, IfSome, Contains}
use Rattle.seg_words.specs.Probing.{Goes}
use Rattle.seg_words.specs.Windows.{Aside, held_blocks}
use Rattle.apcu_model.specs.Cache.{Cache, gap_of}
use Rattle.apcu_model.specs.Change.{with_room, is_expunged}
use Rattle.entry_slots.specs.Entries.{Entries, entries_of, with_taken}
use Rattle.ttl_expunge.specs.ProbedRows.{AreRemoved, AreHeld, KeepsOpen}

-- a block that was taken, if one was
abbrev pub with_found : Option ℕ → ℕ → Entries → Entries
with_found None n s = s
with_found (Some at) n s = with_taken at n s

-- Room was made and the block taken. The cache is the same by the blocks that are held now and by
-- those that are held after later probes of the event.
pub record MakesRoom (old new : Entries) (before after : Aside)
    (n t : ℕ) (place : Option ℕ) (full : Bool) : Type 0 where
  pub room : (c : Cache) (later : Aside) → old ≡ entries_of c → Goes after later
      → new ≡ with_found place n (entries_of (with_room (held_blocks later) n t c))
  pub place_is : (c : Cache) (later : Aside) → old ≡ entries_of c → Goes after later
      → place ≡ gap_of (with_room (held_blocks later) n t c) n
  pub full_is : (c : Cache) (later : Aside) → old ≡ entries_of c → Goes after later
      → full ≡ is_expunged (held_blocks later) n t c
  pub taken : IfSome place (λ at. Contains new.taken (record { place = at; size = n }))
  pub conf_is : new.conf ≡ old.conf
  pub goes : Goes before after
  pub keeps : KeepsOpen after.windows old new
  pub refused : AreRemoved after new.removed
  pub held : AreHeld after new.removed
