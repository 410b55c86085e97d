-- How far a journal was played.
use Rattle.std.specs.Prelude.{◌≡◌, ℕ, Bool, true, List, length, unwrap_or, slice_get, Some}
use Rattle.apcu_model.specs.declared.conf.Clock.{Clock}
use Rattle.apcu_model.specs.declared.conf.Conf.{Conf}
use Rattle.apcu_model.specs.declared.journal.Mark.{Mark}
use Rattle.script_read.specs.declared.script.Step.{Step}
use Rattle.apcu_model.specs.History.{start_of}
use Rattle.script_read.specs.Clock.{all_timed}
use Rattle.script_read.specs.Play.{Play, marked, nothing_played, replies_of, are_done}
use Rattle.reply_text.specs.Lines.{texts_of}
use Rattle.mark_play.specs.ReplayStages.{Replayed}
use Rattle.run_verify.specs.declared.seat.Seat.{Seat}
use Rattle.run_verify.specs.Seats.{IsSeat}

-- these scripts on a cache of this shape, and their play so far
pub record Game : Type 0 where
  pub conf : Conf
  pub scripts : List (List Step)
  pub play : Play

abbrev pub game_begun : Conf → List (List Step) → Game
game_begun conf scripts = record {
  conf = conf;
  scripts = scripts;
  play = nothing_played conf scripts;
}

-- after a mark, if it can be played
abbrev pub game_after : Game → Mark → Game
game_after g mark = record g { play = unwrap_or (marked g.conf g.scripts g.play mark) g.play }

-- The replay is at the stage of the play, and each seat is that of its worker after its replies.
pub record IsGame (conf : Conf) (scripts : List (List Step)) (replay : Replayed)
    (seats : List Seat) (g : Game) : Type 0 where
  pub conf_is : g.conf ≡ conf
  pub scripts_are : g.scripts ≡ scripts
  pub stage : replay.stage ≡ g.play.stage
  pub shape : g.play.stage.cache.conf ≡ conf
  pub many : length seats ≡ length scripts
  pub replies : length g.play.replies ≡ length scripts
  pub seated : (v : ℕ) (script : List Step) (seat : Seat) → slice_get scripts v ≡ Some script
      → slice_get seats v ≡ Some seat → IsSeat conf script (replies_of g.play v) seat

-- a game of these scripts begins with these seats, whatever the clock, on a cache to which no
-- request was made
abbrev pub BeginsGame : List (List Step) → List Seat → Type 0
BeginsGame scripts seats =
    (conf : Conf) (clock : Clock) (left : ℕ)
    → IsGame conf (all_timed clock scripts) (record { stage = start_of conf; left = left }) seats
    (game_begun conf (all_timed clock scripts))

-- whether no worker wants anything more, in a game that has reached these seats
abbrev pub KnowsEnd : List (List Step) → List Seat → Bool → Type 0
KnowsEnd scripts seats done =
    (conf : Conf) (clock : Clock) (replay : Replayed) (g : Game)
    → IsGame conf (all_timed clock scripts) replay seats g
    → done ≡ are_done conf (all_timed clock scripts) g.play.replies

-- these are the lines of the workers' calls, if a game has reached these seats and all are done
abbrev pub TellsAll : List Seat → List (List ℕ) → Type 0
TellsAll seats texts =
    (conf : Conf) (scripts : List (List Step)) (replay : Replayed) (g : Game)
    → IsGame conf scripts replay seats g → are_done conf scripts g.play.replies ≡ true
    → texts ≡ texts_of conf scripts g.play.replies
