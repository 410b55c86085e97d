-- Generated runs: what is left of the workers, and the summary in the end.
use Rattle.std.specs.Prelude.{◌≡◌, ℕ, suc, ◌+◌, ◌*◌, ◌-◌, ◌<◌, ◌≤◌, Bool, true, List, ◌∷◌, length}
use Rattle.std.specs.Prelude.{replicate, slice_get, slice_index, Some}
use mathlib.Core.List.{IsPrefix}
use Rattle.atomic_table.specs.Seated.{TableId}
use Rattle.apcu_model.specs.declared.conf.Conf.{Conf}
use Rattle.apcu_model.specs.declared.journal.Mark.{Mark}
use Rattle.apcu_model.specs.declared.limits.TheConstants.{MOST_WORKERS}
use Rattle.pin_table.specs.Values.{PassView}
use Rattle.script_read.specs.declared.script.Step.{Step}
use Rattle.script_read.specs.Budgets.{events_in, most_events}
use Rattle.script_read.specs.GeneratedScripts.{draws_of, generated}
use Rattle.script_read.specs.Play.{Play, played, IsCompletePlay}
use Rattle.play_laws.specs.Observer.{IsObservedLast, observed}
use Rattle.play_laws.specs.Summary.{IsLarge, Summary, summary_due, summary_of}
use Rattle.worker_play.specs.Ends.{HasEnded, HasMade, PlaysAll}
use Rattle.worker_play.specs.Goes.{KnowsOwnEvents}
use Rattle.crew_play.specs.declared.generated.Watched.{Watched}

-- the summary, as the definitions have it
abbrev pub summary_in : Watched → Summary
summary_in watched = record { inserts = watched.inserts; counters = watched.counters }

-- A journal can be played from its first mark to its last by the workers of the generated scripts,
-- and then none wants anything. Worker 0 reads the counters in it, after all others have ended. The
-- summary is of that play; and it is the one that these scripts must have.
pub record IsWatched (conf : Conf) (seed workers calls : ℕ) (watched : Summary) : Type 0 where
  pub journal : List Mark
  pub play : Play
  pub plays : played conf (observed (generated seed workers calls)) journal ≡ Some play
  pub complete : IsCompletePlay conf (observed (generated seed workers calls)) journal
  pub observed_last : IsObservedLast workers calls journal
  pub told : watched ≡ summary_of calls play
  pub due : watched ≡ summary_due (draws_of seed workers calls)

-- ---- on the way

-- what such a run starts from
pub record IsRun (conf : Conf) (workers calls : ℕ) : Type 0 where
  pub large : IsLarge conf
  pub some : 1 ≤ workers
  pub most : workers ≤ MOST_WORKERS
  pub few : workers * (calls + 1) ≤ most_events

-- how many events each worker may make: worker 0 its calls, eight looks and its end, the others
-- their calls and their end
abbrev pub watched_budgets : ℕ → ℕ → List ℕ
watched_budgets workers calls = (calls + 9) ∷ replicate (workers - 1) (calls + 1)

-- Each worker may make the events of its script and its end; worker 0 also eight looks.
pub record HaveEnough (slots : ℕ) (budgets : List ℕ) (scripts : List (List Step)) : Type 0 where
  pub each : (w : ℕ) (script : List Step) → slice_get scripts w ≡ Some script
      → events_in slots script < slice_index budgets w
  pub first : (script : List Step) → slice_get scripts 0 ≡ Some script
      → events_in slots script + 9 ≤ slice_index budgets 0

-- Worker 0 has not ended yet, the others of this number of first workers have. It has seen what
-- they have seen. If `all` is true, each has made all its calls.
pub record HaveMade (t : TableId) (conf : Conf) (scripts : List (List Step)) (count : ℕ)
    (first : PassView) (others : List PassView) (all : Bool) : Type 0 where
  pub table : first.table ≡ t
  pub worker : first.known.worker ≡ 0
  pub all_own : KnowsOwnEvents first
  pub left : 9 ≤ first.known.left
  pub made : (script : List Step) → slice_get scripts 0 ≡ Some script → all ≡ true
      → HasMade conf script first
  pub have_ended : length others + 1 ≡ count
  pub each : (k : ℕ) (b : PassView) → slice_get others k ≡ Some b → HasEnded t (suc k) b
  pub plays : (k : ℕ) (script : List Step) (b : PassView) → slice_get scripts (suc k) ≡ Some script
      → slice_get others k ≡ Some b → all ≡ true → PlaysAll conf script b
  pub learned : (k : ℕ) (b : PassView) → slice_get others k ≡ Some b
      → IsPrefix b.known.seen first.known.seen
