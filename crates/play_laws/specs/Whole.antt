-- Histories in which workers play their scripts, and the play of such a history.
use Rattle.std.specs.Prelude.{◌≡◌, ℕ, ◌+◌, ◌≤◌, true, List, [], ◌∷◌, length, map, slice_get, Some}
use Rattle.apcu_model.specs.declared.conf.Conf.{Conf}
use Rattle.apcu_model.specs.declared.request.Event.{Event}
use Rattle.apcu_model.specs.declared.request.Reply.{Reply}
use Rattle.apcu_model.specs.History.{start_of, stage_of, all_legal}
use Rattle.pin_table.specs.Events.{events_of}
use Rattle.script_read.specs.declared.script.Step.{Step}
use Rattle.script_read.specs.Play.{Play}
use Rattle.play_laws.specs.Own.{own_replies, wish_in, HasPlayed}

-- Each mask is legal, each worker makes in turn the requests that its script wants after its own
-- replies, until nothing more is wanted, and no other worker makes requests.
pub record IsPlayedOut (conf : Conf) (scripts : List (List Step)) (history : List Event)
    : Type 0 where
  pub legal : all_legal (length scripts) (start_of conf) history ≡ true
  pub asked : (w : ℕ) (script : List Step) → slice_get scripts w ≡ Some script
      → HasPlayed conf script (map wish_in (events_of w history)) (own_replies conf w history)
  pub others : (w : ℕ) → length scripts ≤ w → events_of w history ≡ []

-- the own replies of each of these scripts' workers, the first of which is the worker w
abbrev pub replies_from : Conf → ℕ → List (List Step) → List Event → List (List Reply)
replies_from conf w [] history = []
replies_from conf w (script ∷ scripts) history =
    own_replies conf w history ∷ replies_from conf (w + 1) scripts history

-- the play of a history
abbrev pub play_of : Conf → List (List Step) → List Event → Play
play_of conf scripts history = record {
  stage = stage_of conf history;
  replies = replies_from conf 0 scripts history;
}
