-- A worker's event under the lock, from the moment its pass is taken to the end of its event.
use Rattle.std.specs.Prelude.{◌≡◌, ℕ, ◌+◌, ◌≤◌, false, List, ◌++◌, length, sum}
use mathlib.Core.List.{IsPrefix}
use Rattle.atomic_table.specs.Seated.{TableId}
use Rattle.seg_words.specs.Windows.{held_by}
use Rattle.apcu_model.specs.declared.conf.Conf.{Conf}
use Rattle.apcu_model.specs.declared.request.Event.{Event}
use Rattle.apcu_model.specs.declared.request.Request.{Request}
use Rattle.apcu_model.specs.declared.request.Reply.{Reply}
use Rattle.apcu_model.specs.Change.{AreAlike}
use Rattle.apcu_model.specs.History.{stage_of, held_places}
use Rattle.apcu_model.specs.Journal.{Marks}
use Rattle.cache_core.specs.declared.cache.Core.{Core}
use Rattle.cache_core.specs.CoreCache.{cache_of}
use Rattle.cache_core.specs.Events.{MayInsert}
use Rattle.cache_core.specs.Integers.{NameNoScalar}
use Rattle.pin_table.specs.contracts.writer.WriterWordsIn.TheImpl.{ghosts}
use Rattle.pin_table.specs.declared.writer.Writer.{Writer}
use Rattle.pin_table.specs.Values.{WriterView, PassView}
use Rattle.pin_table.specs.Events.{events_of}
use Rattle.pin_table.specs.Views.{taken_in, aside_of}
use Rattle.shared_cache.specs.Laws.{LockLaws}
use Rattle.shared_cache.specs.LockInvariant.{Settled}
use Rattle.shared_cache.specs.Follows.{Follows}

-- The writer w has taken the pass p. Before that the seat s, the core c and the journal j agreed.
-- The words still represent the cache, and any call of it may follow.
pub record Taken (t : TableId) (conf : Conf) (budgets : List ℕ) (s : WriterView) (c : Core)
    (j : Marks) (p : PassView) (w : Writer) : Type 0 where
  pub laws : LockLaws
  pub settled : Settled t conf budgets s c j
  pub pass : p.table ≡ t
  pub left : 1 ≤ p.known.left
  pub table : w.seat.now.table ≡ t
  pub state : w.seat.now.state ≡ taken_in s.state p.known
  pub worker : w.worker ≡ p.known.worker
  pub events_left : w.left ≡ p.known.left
  pub seen : IsPrefix p.known.seen s.state.log.history
  pub own : events_of p.known.worker s.state.log.history ≡ p.known.own
  pub within : length s.state.log.history + p.known.left ≤ sum s.state.log.budgets
  pub ready : MayInsert ghosts false c w
  pub shape : (cache_of c).conf ≡ conf
  pub unnamed : NameNoScalar (aside_of w.seat.now.state).windows (cache_of c).rows

-- Since the writer was as first, only the words, and what the event's probes found, have changed.
pub record WritesOn (first w : Writer) : Type 0 where
  pub worker : w.worker ≡ first.worker
  pub left : w.left ≡ first.left
  pub table : w.seat.now.table ≡ first.seat.now.table
  pub log : w.seat.now.state.log ≡ first.seat.now.state.log
  pub begun : w.seat.now.state.begun ≡ first.seat.now.state.begun

-- The writer is in an event: it has taken a pass and continues. The journal does not have the event
-- yet.
pub record AtWork (t : TableId) (conf : Conf) (budgets : List ℕ) (j : Marks) (w : Writer)
    : Type 0 where
  pub seat : WriterView
  pub core : Core
  pub pass : PassView
  pub first : Writer
  pub taken : Taken t conf budgets seat core j pass first
  pub writes_on : WritesOn first w

-- The pass q is p after one more event, as `Follows` has it, which comes after this history and has
-- this mask. What its workers hold there is what their windows name.
pub record FollowsAt (conf : Conf) (workers : ℕ) (p q : PassView) (t : ℕ) (r : Request) (y : Reply)
    (history : List Event) (mask : ℕ) (windows : List ℕ) : Type 0 where
  pub follows : Follows conf workers p q t r y
  pub mask_is : follows.mask ≡ mask
  pub before : p.known.seen ++ follows.between ≡ history
  pub held : AreAlike (held_by mask windows) (held_places (stage_of conf history) mask)
