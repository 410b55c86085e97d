-- The laws of this crate, as records that callers pass on.
use Rattle.apcu_model.specs.Cache.{Cache, Row}
use Rattle.apcu_model.specs.Change.{AreAlike, ForgetsCounts, KeepsCounts, is_expunged, with_room}
use Rattle.apcu_model.specs.Change.{with_row}
use Rattle.apcu_model.specs.Generators.{entered}
use Rattle.apcu_model.specs.History.{Stage, after_event, after_events, all_legal, are_shallow}
use Rattle.apcu_model.specs.History.{is_legal_mask, is_shallow, mark_of, marks_of, stage_of}
use Rattle.apcu_model.specs.Levels.{Generator}
use Rattle.apcu_model.specs.Numbers.{AreBelow, IsIn, IsStill, KeepsNumbers}
use Rattle.apcu_model.specs.Rows.{are_apart}
use Rattle.apcu_model.specs.Sequential.{cache_after, reply_to}
use Rattle.apcu_model.specs.declared.conf.Conf.{Conf}
use Rattle.apcu_model.specs.declared.request.Event.{Event}
use Rattle.apcu_model.specs.declared.journal.TheConstants.{MOST_EVENTS}
use Rattle.apcu_model.specs.declared.request.Request.{Request}
use Rattle.std.specs.Prelude.{Bool, List, [], false, filter, length, map, true, ℕ, ◌&&◌, ◌+◌}
use Rattle.std.specs.Prelude.{◌++◌, ◌∷◌, ◌≡◌, ◌≤◌}

-- what keeps the keys of rows different
pub record RowsStayApart : Type 0 where
  pub picked : (test : Row → Bool) (rows : List Row) → are_apart rows ≡ true
      → are_apart (filter test rows) ≡ true
  pub changed : (change : Row → Row) (rows : List Row) → ((row : Row) → (change row).key
      ≡ row.key) → are_apart (map change rows) ≡ are_apart rows
  pub more : (row : Row) (rows : List Row) → are_apart rows ≡ true
      → are_apart (with_row row rows) ≡ true

-- what making room does to the counters
pub record CountLaws : Type 0 where
  pub kept : (held : List ℕ) (n t : ℕ) (c : Cache) → is_expunged held n t c ≡ false
      → KeepsCounts c (with_room held n t c)
  pub forgotten : (held : List ℕ) (n t : ℕ) (c : Cache) → is_expunged held n t c ≡ true
      → ForgetsCounts c (with_room held n t c)

-- of held places only the members count
pub record HeldAlike : Type 0 where
  pub cache : (held other : List ℕ) → AreAlike held other
      → (t : ℕ) (request : Request) (c : Cache) → cache_after held t request c
      ≡ cache_after other t request c
  pub reply : (held other : List ℕ) → AreAlike held other
      → (t : ℕ) (request : Request) (c : Cache) → reply_to held t request c
      ≡ reply_to other t request c
  pub entered : (held other : List ℕ) → AreAlike held other → (g : Generator) (t : ℕ) (c : Cache)
      → entered held g t c ≡ entered other g t c

-- what follows from one more event
pub record OneEventMore : Type 0 where
  pub after : (m : Stage) (events : List Event) (e : Event) → after_events m (events ++ e ∷ [])
      ≡ after_event (after_events m events) e
  pub legal : (workers : ℕ) (m : Stage) (events : List Event) (e : Event)
      → all_legal workers m (events ++ e ∷ [])
      ≡ (all_legal workers m events && is_legal_mask workers e.worker (after_events m events)
      e.mask)
  pub shallow : (events : List Event) (e : Event) → are_shallow (events ++ e ∷ [])
      ≡ (are_shallow events && is_shallow e.request)
  pub marks : (events : List Event) (e : Event) → marks_of (events ++ e ∷ [])
      ≡ marks_of events ++ mark_of e ∷ []

-- The cache keeps its shape, and rows of which no two have the same key stay so: in one event, and
-- in any history.
pub record EventsKeep : Type 0 where
  pub conf : (held : List ℕ) (t : ℕ) (r : Request) (c : Cache)
      → (cache_after held t r c).conf ≡ c.conf
  pub apart : (held : List ℕ) (t : ℕ) (r : Request) (c : Cache) → are_apart c.rows ≡ true
      → are_apart (cache_after held t r c).rows ≡ true
  pub conf_in : (conf : Conf) (history : List Event) → (stage_of conf history).cache.conf ≡ conf
  pub apart_in : (conf : Conf) (history : List Event)
      → are_apart (stage_of conf history).cache.rows ≡ true

-- What row numbers say in a history, and after more of its events, if all of them are shallow and
-- at most `MOST_EVENTS`.
pub record RowsKeepNumbers : Type 0 where
  pub below : (conf : Conf) (history : List Event) → length history ≤ MOST_EVENTS
      → are_shallow history ≡ true → AreBelow (stage_of conf history).cache
  -- a number is never used again
  pub later : (conf : Conf) (before between : List Event)
      → length before + length between ≤ MOST_EVENTS
      → are_shallow before ≡ true → are_shallow between ≡ true
      → KeepsNumbers (stage_of conf before).cache
      (after_events (stage_of conf before) between).cache
  -- a number identifies one row, at both moments
  pub one : (conf : Conf) (before between : List Event)
      → length before + length between ≤ MOST_EVENTS
      → are_shallow before ≡ true → are_shallow between ≡ true
      → (was row : Row) → IsIn (stage_of conf before).cache was
      → IsIn (after_events (stage_of conf before) between).cache row
      → was.number ≡ row.number → IsStill was row
