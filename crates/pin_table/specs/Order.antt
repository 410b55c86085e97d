-- What the steps over the shared words carry, so that the rule holds after each of them.
use Rattle.std.specs.Prelude.{◌≡◌, ℕ, ◌+◌, ◌<◌, ◌≤◌, true, false, List, [], ◌∷◌, length}
use Rattle.std.specs.Prelude.{slice_index, None, Some}
use Rattle.std.specs.List.{last_or}
use Rattle.std.specs.Int.{bit_at}
use mathlib.Core.Option.{some}
use mathlib.Core.List.{IsPrefix}
use lib.ListN.{get_elem?}
use Rattle.seg_words.specs.Windows.{has}
use Rattle.seg_words.specs.Blocks.{image_place}
use Rattle.apcu_model.specs.declared.limits.TheConstants.{MOST_WORKERS}
use Rattle.apcu_model.specs.declared.request.Event.{Event}
use Rattle.pin_table.specs.declared.views.Known.{Known}
use Rattle.pin_table.specs.declared.views.EventLog.{EventLog}
use Rattle.pin_table.specs.declared.views.Reader.{Reader}
use Rattle.pin_table.specs.declared.views.WriterState.{WriterState}
use Rattle.pin_table.specs.declared.views.View.{View}
use Rattle.pin_table.specs.declared.views.View.TheVariants.{Writer, Idle, Copying}
use Rattle.pin_table.specs.Events.{events_of, is_fetch, fetched_last}
use Rattle.pin_table.specs.Pins.{pins_on, IsBlock, AreApart, content_of, refused_in, freed_in}
use Rattle.pin_table.specs.Views.{is_in_hand, has_worker, named_blocks, carries, copied_blocks}

-- What a worker knows fits the writer's log: it was made, it has seen a beginning of the history,
-- its own events are all of its events there and in the whole history, and with those left they are
-- its budget.
pub record Fits (b : EventLog) (p : Known) : Type 0 where
  pub made : p.worker < b.made
  pub seen : IsPrefix p.seen b.history
  pub own : events_of p.worker b.history ≡ p.own
  pub saw_own : events_of p.worker p.seen ≡ p.own
  pub budget : length p.own + p.left ≡ slice_index b.budgets p.worker

-- The log is in order: no event of a worker that was not made, none beyond a budget; the pass in
-- the hand fits and was not taken in, and those taken in fit.
pub record LogInOrder (b : EventLog) : Type 0 where
  pub count : b.made ≤ length b.budgets
  pub none : (w : ℕ) → b.made ≤ w → events_of w b.history ≡ []
  pub bounded : (w : ℕ) → w < b.made → length (events_of w b.history) ≤ slice_index b.budgets w
  pub hand : (p : Known) → b.hand ≡ Some p → Fits b p
  pub away : (p : Known) → b.hand ≡ Some p → has_worker p.worker b.closed ≡ false
  pub closed : (k : ℕ) (p : Known) → get_elem? b.closed k ≡ some p → Fits b p

-- The pass of the seat k is in order. `place` gives each worker's seat, so no worker has two.
pub record PassInOrder (b : EventLog) (place : ℕ → ℕ) (k : ℕ) (p : Known) : Type 0 where
  pub fits : Fits b p
  pub placed : place p.worker ≡ k
  pub away : is_in_hand p.worker b.hand ≡ false
  pub open_yet : has_worker p.worker b.closed ≡ false

-- The writer's state is in order, if the worker v copies from the block (slice_index copying v)
-- now, unless that is 0.
pub record StateInOrder (d : WriterState) (copying : List ℕ) : Type 0 where
  pub log : LogInOrder d.log
  pub few : length copying ≤ MOST_WORKERS
  pub seats : length d.windows ≡ length copying
  pub all_seats : length d.log.budgets ≡ length copying
  -- a worker that copies from a block has its window on it
  pub pins : (v at : ℕ) → get_elem? copying v ≡ some at → 0 < at → get_elem? d.windows v ≡ some at
  -- a window is open from a fetch until its worker's pass is taken again
  pub fetched : (v at : ℕ) → get_elem? d.windows v ≡ some at → 0 < at
      → (is_in_hand v d.log.hand ≡ false) × (has_worker v d.log.closed ≡ false)
      × (fetched_last v d.log.history false ≡ true)
  pub stand : (j at : ℕ) → get_elem? (named_blocks d) j ≡ some at → 0 < at → IsBlock d.words at
  pub apart : (j k a b : ℕ) → get_elem? (named_blocks d) j ≡ some a
      → get_elem? (named_blocks d) k ≡ some b → 0 < a → 0 < b → AreApart d.words a b
  -- no window names a block on which this event's probes found no worker
  pub unread : (v at : ℕ) → get_elem? d.windows v ≡ some at → 0 < at
      → has at (freed_in d.readings) ≡ false
  -- the workers of the mask have their windows on blocks on which this event's probes found a
  -- worker
  pub masked : (v : ℕ) → bit_at d.mask v ≡ 1
      → (at : ℕ) × (get_elem? d.windows v ≡ some at) × (0 < at)
      × (has at (refused_in d.readings) ≡ true)
  -- since the event began windows have only closed
  pub shrunk : (p : Known) → d.log.hand ≡ Some p
      → (v at : ℕ) → get_elem? d.windows v ≡ some at → 0 < at → get_elem? d.begun v ≡ some at

-- One fetch is the last event that a worker has seen, and the last that it made. A worker that
-- copies has seen the history as the event left it that pinned its block, so this is that event.
abbrev pub EndsByItsPin : Known → Type 0
EndsByItsPin p = (e : Event) × (is_fetch e.request ≡ true)
    × (last_or None p.seen ≡ Some e) × (last_or None p.own ≡ Some e)

-- what a worker that copies knows is in order
pub record ReaderInOrder (d : WriterState) (copying : List ℕ) (c : Reader) : Type 0 where
  pub some_block : 0 < c.block
  pub copies : get_elem? copying c.known.worker ≡ some c.block
  pub first : c.first ≡ image_place d.words c.block
  pub content : c.content ≡ content_of d.words c.block
  pub pin : EndsByItsPin c.known

-- each worker that was made, is not in the hand and was not taken in has its pass at its place
abbrev pub AllPlaced : EventLog → (ℕ → ℕ) → List View → Type 0
AllPlaced b place views = (w : ℕ) → w < b.made → is_in_hand w b.hand ≡ false
    → has_worker w b.closed ≡ false
    → (v : View) × (get_elem? views (place w) ≡ some v) × (carries w v ≡ true)

-- What each step carries from one state of the table to the next, for some state of the writer,
-- some place for each worker's pass and some block from which each worker copies. One equation
-- holds for every word: it is the writer's, and one more for each worker that copies from the block
-- whose pin count it is.
pub record Carried (words : List ℕ) (views : List View) : Type 0 where
  pub state : WriterState
  pub place : ℕ → ℕ
  pub copying : List ℕ
  pub at : get_elem? views 0 ≡ some (Writer state)
  pub count : length words ≡ length state.words
  pub each_word : (i : ℕ)
      → slice_index words i ≡ slice_index state.words i + pins_on i (state.pinning ∷ copying)
  pub state_ok : StateInOrder state copying
  pub idle : (k : ℕ) (p : Known) → get_elem? views k ≡ some (Idle p)
      → PassInOrder state.log place k p × (get_elem? copying p.worker ≡ some 0)
  pub copy : (k : ℕ) (c : Reader) → get_elem? views k ≡ some (Copying c)
      → PassInOrder state.log place k c.known × ReaderInOrder state copying c
  pub placed : AllPlaced state.log place views
  -- which workers copy, by the workers and by the views
  pub copies : (i : ℕ) → pins_on i copying ≡ pins_on i (copied_blocks views)
