-- Workers that have ended, one after the other.
use Rattle.std.specs.Prelude.{◌≡◌, ℕ, suc, ◌<◌, List, [], length, slice_get, Some, Result}
use Rattle.std.specs.Result.{result_ok}
use Rattle.atomic_table.specs.Seated.{TableId}
use Rattle.apcu_model.specs.declared.conf.Conf.{Conf}
use Rattle.pin_table.specs.Values.{PassView}
use Rattle.pin_table.specs.Events.{events_of}
use Rattle.script_read.specs.declared.script.Step.{Step}
use Rattle.worker_play.specs.declared.script.Lines.TheVariants.{Kept}
use Rattle.worker_play.specs.declared.script.PlayFault.{PlayFault}
use Rattle.worker_play.specs.Ends.{Ends}

-- This number of first workers have ended, each with its text, or why there is none.
pub record AllEnd (t : TableId) (conf : Conf) (scripts : List (List Step)) (count : ℕ)
    (ended : List PassView) (texts : List (Result (List ℕ) PlayFault)) : Type 0 where
  pub have_ended : length ended ≡ count
  pub have_texts : length texts ≡ count
  pub each : (w : ℕ) (script : List Step) (b : PassView) (text : Result (List ℕ) PlayFault)
      → slice_get scripts w ≡ Some script → slice_get ended w ≡ Some b
      → slice_get texts w ≡ Some text → Ends t conf w Kept script b (result_ok text)

-- When it ended, none of this number of first workers had made an event.
abbrev pub EndsBefore : ℕ → PassView → Type 0
EndsBefore count b = (w : ℕ) → w < count → events_of w b.known.seen ≡ []

-- The last of this number of workers ended before any other had made an event.
abbrev pub LastEndsFirst : ℕ → List PassView → Type 0
LastEndsFirst count ended = (k : ℕ) (b : PassView) → suc k ≡ count → slice_get ended k ≡ Some b
    → EndsBefore k b
