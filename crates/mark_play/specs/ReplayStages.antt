-- The stage of a replay.
use Rattle.std.specs.Prelude.{◌≡◌, ℕ, ◌+◌, ◌<◌, ◌≤◌, ◌++◌, true, List, length, Option, Some, None}
use Rattle.std.specs.Prelude.{slice_index_or}
use Rattle.seg_words.specs.declared.segment.WordsIn.{Ghosts}
use Rattle.apcu_model.specs.declared.conf.Conf.{Conf}
use Rattle.apcu_model.specs.declared.request.Event.{Event}
use Rattle.apcu_model.specs.declared.journal.TheConstants.{MOST_EVENTS}
use Rattle.apcu_model.specs.declared.limits.TheConstants.{MOST_WORKERS}
use Rattle.apcu_model.specs.Cache.{Cache}
use Rattle.apcu_model.specs.History.{Stage, stage_of, are_shallow, window_of}
use Rattle.cache_core.specs.declared.cache.Core.{Core}
use Rattle.cache_core.specs.CoreCache.{cache_of, CacheStands}
use Rattle.mark_play.specs.declared.answering.Window.{Window}
use Rattle.mark_play.specs.HeldPlaces.{HasKeyIn}

-- what contracts see of it: the stage after the events so far, and how many more it can play
pub record Replayed : Type 0 where
  pub stage : Stage
  pub left : ℕ

abbrev pub window_number : Option Window → Option ℕ
window_number None = None
window_number (Some w) = Some w.number

-- a window's number was given to a row, and only one of the window's key can have it
pub record IsWindowIn (c : Cache) (w : Window) : Type 0 where
  pub below : w.number < c.next_number
  pub key : HasKeyIn (c.rows ++ c.removed) w

-- it was reached by few enough events, each of at most eight insertions
pub record IsStage (m : Stage) (left : ℕ) : Type 0 where
  pub conf : Conf
  pub history : List Event
  pub stage : stage_of conf history ≡ m
  pub few : length history + left ≤ MOST_EVENTS
  pub shallow : are_shallow history ≡ true

-- The words represent the cache that was reached, and for each worker its window is kept, with the
-- key of its row.
pub record IsReached {X : Type 0} (g : Ghosts X (List ℕ)) (core : Core) (words : X)
    (windows : List (Option Window)) (m : Stage) (left : ℕ) : Type 0 where
  pub stand : CacheStands g core words
  pub cache : cache_of core ≡ m.cache
  pub full : length windows ≡ MOST_WORKERS
  pub seats : length (g.rest words) ≡ MOST_WORKERS
  pub numbers : (v : ℕ) → v < MOST_WORKERS
      → window_number (slice_index_or windows v None) ≡ window_of m v
  pub keys : (v : ℕ) (w : Window) → slice_index_or windows v None ≡ Some w
      → IsWindowIn m.cache w
  pub history : IsStage m left
