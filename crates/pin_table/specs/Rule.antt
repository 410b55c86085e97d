-- The rule over the shared words. Many workers load and store them in single steps, and the rule
-- holds before and after each step of any of them, whatever the others do. It is about the words
-- and one view for each seat: what the thread with that seat knows. A view is that of the writer
-- (the seat 0, behind the lock), of an idle pass, of a pass that copies from a block, or nothing. A
-- block is named if a window of the writer has its place, or the writer is just pinning it.
use Rattle.std.specs.Prelude.{◌≡◌, ℕ, ◌+◌, ◌<◌, ◌≤◌, true, false, List, [], ◌∷◌, length}
use Rattle.std.specs.Prelude.{slice_index, Some}
use mathlib.Core.Option.{some}
use lib.ListN.{get_elem?}
use Rattle.atomic_table.specs.Table.{State}
use Rattle.seg_words.specs.declared.layout.TheConstants.{IMAGE_LENGTH, PIN_COUNT}
use Rattle.seg_words.specs.Windows.{has, is_named}
use Rattle.seg_words.specs.Blocks.{IsTold, image_place, image_end}
use Rattle.apcu_model.specs.declared.limits.TheConstants.{MOST_WORKERS}
use Rattle.pin_table.specs.declared.views.Known.{Known}
use Rattle.pin_table.specs.declared.views.Reader.{Reader}
use Rattle.pin_table.specs.declared.views.WriterState.{WriterState}
use Rattle.pin_table.specs.declared.views.View.{View}
use Rattle.pin_table.specs.declared.views.View.TheVariants.{Writer, Copying}
use Rattle.pin_table.specs.Events.{events_of, fetched_last}
use Rattle.pin_table.specs.Pins.{pins_on, AreApart, content_of, freed_in}
use Rattle.pin_table.specs.Views.{is_in_hand, has_worker, known_of, named_blocks, carries}
use Rattle.pin_table.specs.Views.{copied_blocks}
use Rattle.pin_table.specs.Order.{Fits, EndsByItsPin, AllPlaced, Carried}

-- First: each word except the pin counts is the writer's word there, and the writer has 0 at the
-- pin counts.
pub record WordsAreWriters (words : List ℕ) (d : WriterState) : Type 0 where
  pub count : length words ≡ length d.words
  pub same : (i : ℕ) → IsTold (named_blocks d) i → slice_index words i ≡ slice_index d.words i
  pub zero : (at : ℕ) → is_named (named_blocks d) at ≡ true
      → slice_index d.words (at + PIN_COUNT) ≡ 0

-- Second: each worker that was made, and was not taken in at the end, has its pass in one place,
-- which is a view or the writer's hand. No other worker has a pass, a window, an event, or was
-- taken in.
pub record PassesAreOne (views : List View) (d : WriterState) (place : ℕ → ℕ) : Type 0 where
  pub placed : AllPlaced d.log place views
  pub once : (w k : ℕ) (v : View) → get_elem? views k ≡ some v → carries w v ≡ true
      → (place w ≡ k) × (w < d.log.made)
      × (is_in_hand w d.log.hand ≡ false) × (has_worker w d.log.closed ≡ false)
  pub hand : (w : ℕ) → is_in_hand w d.log.hand ≡ true
      → (w < d.log.made) × (has_worker w d.log.closed ≡ false)
  pub closed : (w : ℕ) → has_worker w d.log.closed ≡ true → w < d.log.made
  pub no_event : (w : ℕ) → d.log.made ≤ w → events_of w d.log.history ≡ []
  pub no_window : (w at : ℕ) → d.log.made ≤ w → get_elem? d.windows w ≡ some at → at ≡ 0
  pub few : d.log.made ≤ MOST_WORKERS

-- Third: what a pass has seen is a beginning of the writer's history, its own events are all of its
-- worker's events there and in the whole history, and with those left they are the worker's budget.
-- No worker has more events than its budget.
pub record HistoriesAgree (views : List View) (d : WriterState) : Type 0 where
  pub passes : (w k : ℕ) (v : View) → get_elem? views k ≡ some v → carries w v ≡ true
      → Fits d.log (known_of v)
  pub hand : (p : Known) → d.log.hand ≡ Some p → Fits d.log p
  pub bounded : (w : ℕ) → w < d.log.made
      → length (events_of w d.log.history) ≤ slice_index d.log.budgets w

-- Fourth: a worker has a window only if it is not in the writer's hand and its last event is a
-- fetch. A worker that copies has its window on the block, knows the words of the image as the
-- writer has them, and has seen and made nothing since the fetch that pinned the block.
pub record WindowsAreFetches (views : List View) (d : WriterState) : Type 0 where
  pub windows : (w at : ℕ) → get_elem? d.windows w ≡ some at → 0 < at
      → (is_in_hand w d.log.hand ≡ false) × (fetched_last w d.log.history false ≡ true)
  pub block : (k : ℕ) (c : Reader) → get_elem? views k ≡ some (Copying c)
      → (0 < c.block) × (get_elem? d.windows c.known.worker ≡ some c.block)
  pub content : (k : ℕ) (c : Reader) → get_elem? views k ≡ some (Copying c)
      → c.content ≡ content_of d.words c.block
  pub last : (k : ℕ) (c : Reader) → get_elem? views k ≡ some (Copying c)
      → fetched_last c.known.worker c.known.own false ≡ true
  pub pin : (k : ℕ) (c : Reader) → get_elem? views k ≡ some (Copying c) → EndsByItsPin c.known

-- Fifth: the pin count of a block is how many views copy from it, and one more while the writer is
-- pinning it.
pub record CountsAreCopies (words : List ℕ) (views : List View) (d : WriterState) : Type 0 where
  pub count : (at : ℕ) → is_named (named_blocks d) at ≡ true
      → slice_index words (at + PIN_COUNT)
      ≡ pins_on (at + PIN_COUNT) (d.pinning ∷ copied_blocks views)

-- Sixth: no window names a block at which the writer's event found a count of 0.
pub record ReadingsCloseWindows (d : WriterState) : Type 0 where
  pub closed : (w at : ℕ) → get_elem? d.windows w ≡ some at → 0 < at
      → has at (freed_in d.readings) ≡ false

-- Seventh: any two blocks that are named are the same or have no word in common, and lie inside the
-- table. A worker that copies reads the image that the writer's words have for its block.
pub record BlocksAreApart (views : List View) (d : WriterState) : Type 0 where
  pub apart : (a b : ℕ) → is_named (named_blocks d) a ≡ true → is_named (named_blocks d) b ≡ true
      → AreApart d.words a b
  pub inside : (at : ℕ) → is_named (named_blocks d) at ≡ true
      → image_end d.words at ≤ length d.words
  pub first : (k : ℕ) (c : Reader) → get_elem? views k ≡ some (Copying c)
      → c.first ≡ image_place d.words c.block
  pub range : (k : ℕ) (c : Reader) → get_elem? views k ≡ some (Copying c)
      → length c.content ≡ slice_index d.words (c.block + IMAGE_LENGTH)

-- All seven, for some state of the writer and some place for each worker's pass, with what a step
-- needs of the state before it.
pub record Rule (words : List ℕ) (views : List View) : Type 0 where
  pub state : WriterState
  pub place : ℕ → ℕ
  pub writer : get_elem? views 0 ≡ some (Writer state)
  pub one : WordsAreWriters words state
  pub two : PassesAreOne views state place
  pub three : HistoriesAgree views state
  pub four : WindowsAreFetches views state
  pub five : CountsAreCopies words views state
  pub six : ReadingsCloseWindows state
  pub seven : BlocksAreApart views state
  pub carried : Carried words views

abbrev pub IsRuled : {S : Type 0} → State S View → Type 0
IsRuled s = Rule s.words s.views

abbrev pub IsCarried : {S : Type 0} → State S View → Type 0
IsCarried s = Carried s.words s.views
