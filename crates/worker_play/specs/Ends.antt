-- Workers that have ended.
use Rattle.std.specs.Prelude.{◌≡◌, ℕ, List, [], ◌∷◌, ◌++◌, map, Option, IfSome}
use Rattle.atomic_table.specs.Seated.{TableId}
use Rattle.apcu_model.specs.declared.conf.Conf.{Conf}
use Rattle.apcu_model.specs.declared.request.Request.TheVariants as requests
use Rattle.apcu_model.specs.declared.request.Reply.{Reply}
use Rattle.apcu_model.specs.declared.request.Reply.TheVariants.{Ended}
use Rattle.pin_table.specs.Values.{PassView}
use Rattle.script_read.specs.declared.script.Step.{Step}
use Rattle.script_read.specs.Play.{Wish, wanted}
use Rattle.play_laws.specs.Own.{own_replies, wish_in, AreInTurn, HasPlayed}
use Rattle.reply_text.specs.Lines.{script_lines}
use Rattle.worker_play.specs.declared.script.Lines.{Lines}
use Rattle.worker_play.specs.Goes.{wish, KnowsOwnEvents, left_of}
use Rattle.worker_play.specs.Turns.{turns_of, wanted_in}

-- It made all requests of its script, its end included.
abbrev pub PlaysAll : Conf → List Step → PassView → Type 0
PlaysAll conf script b =
    HasPlayed conf script (map wish_in b.known.own)
    (own_replies conf b.known.worker b.known.seen)

-- The same, and the text is what is left of a line for each call, made of the worker's own replies
-- in what it has seen.
pub record PlaysOut (conf : Conf) (lines : Lines) (script : List Step) (b : PassView)
    (text : List ℕ) : Type 0 where
  pub played : PlaysAll conf script b
  pub is : text
      ≡ left_of lines (script_lines conf script (own_replies conf b.known.worker b.known.seen))

-- It made the first of the requests of its script's calls, in turn, and then its end.
pub record AskedInTurn (conf : Conf) (script : List Step) (b : PassView) : Type 0 where
  pub made : List Wish
  pub replies : List Reply
  pub in_turn : AreInTurn (wanted_in (turns_of conf script)) made replies
  pub asked : map wish_in b.known.own ≡ made ++ wish 0 requests.Retire ∷ []
  pub answered : own_replies conf b.known.worker b.known.seen ≡ replies ++ Ended ∷ []

-- The worker w of the table has ended.
pub record HasEnded (t : TableId) (w : ℕ) (b : PassView) : Type 0 where
  pub table : b.table ≡ t
  pub worker : b.known.worker ≡ w
  pub all_own : KnowsOwnEvents b

-- It has ended, and if there is a text, it has played all of its script.
pub record Ends (t : TableId) (conf : Conf) (w : ℕ) (lines : Lines) (script : List Step)
    (b : PassView) (text : Option (List ℕ)) : Type 0 where
  pub ended : HasEnded t w b
  pub begun : AskedInTurn conf script b
  pub plays : IfSome text (λ it. PlaysOut conf lines script b it)

-- ---- before its end

-- The worker made its script's requests in turn. After its replies the script wants what one
-- without calls does: its end, and then nothing.
pub record HasMade (conf : Conf) (script : List Step) (b : PassView) : Type 0 where
  pub in_turn : AreInTurn (wanted conf script) (map wish_in b.known.own)
      (own_replies conf b.known.worker b.known.seen)
  pub done : (later : List Reply)
      → wanted conf script (own_replies conf b.known.worker b.known.seen ++ later)
      ≡ wanted conf [] later
