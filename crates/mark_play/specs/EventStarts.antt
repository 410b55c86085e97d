-- How an event begins.
use Rattle.std.specs.Prelude.{◌≡◌, ℕ, ◌<◌, ◌^◌, List, length, Option, None, slice_index}
use Rattle.std.specs.Prelude.{slice_index_or}
use Rattle.std.specs.Int.{bit_at}
use Rattle.seg_words.specs.declared.segment.WordsIn.{Ghosts}
use Rattle.seg_words.specs.EventWindows.{event_begun}
use Rattle.apcu_model.specs.declared.limits.TheConstants.{MOST_WORKERS}
use Rattle.apcu_model.specs.History.{Stage}
use Rattle.entry_slots.specs.Entries.{listed}
use Rattle.entry_slots.specs.Standing.{entries}
use Rattle.cache_core.specs.declared.cache.Core.{Core}
use Rattle.mark_play.specs.declared.answering.Window.{Window}
use Rattle.mark_play.specs.HeldPlaces.{IsHeldFor}
use Rattle.mark_play.specs.Laws.{PlayLaws}
use Rattle.mark_play.specs.ReplayStages.{IsReached}

-- some stage was reached
pub record HasReached {X : Type 0} (g : Ghosts X (List ℕ)) (core : Core) (words : X)
    (windows : List (Option Window)) : Type 0 where
  pub stage : Stage
  pub left : ℕ
  pub at : IsReached g core words windows stage left

-- From a stage that was reached an event begins. The words were `old` and are `new`: for each
-- worker of the mask, the block that its window is of is held, if it still exists.
pub record Begins {X : Type 0} (g : Ghosts X (List ℕ)) (core : Core) (old new : X)
    (windows : List (Option Window)) (m : Stage) (left mask : ℕ) : Type 0 where
  pub laws : PlayLaws
  pub at : IsReached g core old windows m left
  pub held : List ℕ
  pub seats : length held ≡ MOST_WORKERS
  pub small : mask < 2 ^ 64
  pub held_for : (v : ℕ) → v < MOST_WORKERS → bit_at mask v ≡ 1
      → IsHeldFor (listed (entries core.slots)) (slice_index_or windows v None)
      (slice_index held v)
  pub words : g.words new ≡ g.words old
  pub aside : g.aside new ≡ event_begun mask held
  pub rest : g.rest new ≡ held
