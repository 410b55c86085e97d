-- A pass after some events of its worker, and what its call prints of their replies.
use Rattle.std.specs.Prelude.{◌≡◌, ℕ, ◌+◌, true, List, [], ◌++◌, length, map}
use mathlib.Core.List.{IsPrefix}
use Rattle.apcu_model.specs.declared.conf.Conf.{Conf}
use Rattle.apcu_model.specs.declared.request.Request.{Request}
use Rattle.apcu_model.specs.declared.request.Reply.{Reply}
use Rattle.apcu_model.specs.History.{start_of, all_legal}
use Rattle.pin_table.specs.Values.{PassView}
use Rattle.pin_table.specs.Events.{events_of}
use Rattle.script_read.specs.Play.{Wish}
use Rattle.play_laws.specs.Own.{own_replies, wish_in, AreInTurn}
use Rattle.worker_play.specs.declared.script.Lines.{Lines}
use Rattle.worker_play.specs.declared.script.Lines.TheVariants.{Kept, Dropped}
use Rattle.worker_play.specs.Turns.{Turn, Over, wanted_in}

-- a request at a moment
abbrev pub wish : ℕ → Request → Wish
wish t r = record { request = r; t = t }

-- in what the pass has seen its worker's events are its own, all of them
abbrev pub KnowsOwnEvents : PassView → Type 0
KnowsOwnEvents p = events_of p.known.worker p.known.seen ≡ p.known.own

-- The pass q is p after these further requests of its worker, each of which was one event, with
-- these replies: those of the single-threaded cache at the events' places in what q has seen. Also,
-- q has seen what others did; if what p had seen was legal, all of it is.
pub record GoesOn (conf : Conf) (workers : ℕ) (p q : PassView) (wishes : List Wish)
    (replies : List Reply) : Type 0 where
  pub table : q.table ≡ p.table
  pub worker : q.known.worker ≡ p.known.worker
  pub left : q.known.left + length wishes ≡ p.known.left
  pub count : length replies ≡ length wishes
  pub own : map wish_in q.known.own ≡ map wish_in p.known.own ++ wishes
  pub replies_are : own_replies conf q.known.worker q.known.seen
      ≡ own_replies conf p.known.worker p.known.seen ++ replies
  pub seen : IsPrefix p.known.seen q.known.seen
  pub all_own : KnowsOwnEvents q
  pub legal : all_legal workers (start_of conf) p.known.seen ≡ true
      → all_legal workers (start_of conf) q.known.seen ≡ true

-- The first of the requests of these turns were made.
pub record Reaches (conf : Conf) (workers : ℕ) (p q : PassView) (turns : List Reply → Turn)
    : Type 0 where
  pub made : List Wish
  pub replies : List Reply
  pub in_turn : AreInTurn (wanted_in turns) made replies
  pub goes : GoesOn conf workers p q made replies

-- All requests of these turns were made, and this is the result of their replies.
pub record Tells {A : Type 0} (conf : Conf) (workers : ℕ) (p q : PassView)
    (turns : List Reply → Turn) (told : List Reply → A) (a : A) : Type 0 where
  pub asked : Reaches conf workers p q turns
  pub over : turns asked.replies ≡ Over []
  pub is : a ≡ told asked.replies

-- what is left of some lines
abbrev pub left_of : Lines → List ℕ → List ℕ
left_of Kept lines = lines
left_of Dropped lines = []
