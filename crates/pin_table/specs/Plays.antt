-- What the seat learns from each kind of step that it makes: `v` and `w` are the seat before and
-- after, and `n` is the number that the step found in its word.
use Rattle.std.specs.Prelude.{◌≡◌, ℕ, ◌-◌, ◌==◌, true, false, MatchBool, List, slice_index}
use Rattle.std.specs.Prelude.{slice_set}
use Rattle.atomic_table.specs.Table.{Me, Step}
use Rattle.seg_words.specs.declared.layout.TheConstants.{PIN_COUNT}
use Rattle.seg_words.specs.Windows.{has, is_named, held_by}
use Rattle.seg_words.specs.Blocks.{IsTold}
use Rattle.pin_table.specs.declared.views.View.{View}
use Rattle.pin_table.specs.declared.views.View.TheVariants.{Writer, Idle}
use Rattle.pin_table.specs.Order.{StateInOrder}
use Rattle.pin_table.specs.Views.{state_of, copying_reader, named_blocks, with_words, probed}
use Rattle.pin_table.specs.Views.{pinning_at}

module _ {S : Type 0} where
  -- nothing changed, and the state is in order
  abbrev pub Looks : Step S → Me S View → ℕ → Me S View → Type 0
  Looks s v n w = (w ≡ v) × ((copying : List ℕ) × StateInOrder (state_of v.0) copying)

  -- the writer's load of a word that is told
  abbrev pub ReadsTold : Step S → Me S View → ℕ → Me S View → Type 0
  ReadsTold s v n w = (w ≡ v)
      × (IsTold (named_blocks (state_of v.0)) s.word → slice_index (state_of v.0).words s.word ≡ n)

  -- the writer's store of a word
  abbrev pub Writes : Step S → Me S View → ℕ → Me S View → Type 0
  Writes s v n w = w
      ≡ (Writer (with_words (state_of v.0) (slice_set (state_of v.0).words s.word s.first)), v.1)

  -- the writer's load of a pin count
  abbrev pub Probes : Step S → Me S View → ℕ → Me S View → Type 0
  Probes s v n w = (w ≡ (Writer (probed (state_of v.0) (s.word - PIN_COUNT) n), v.1))
      × MatchBool (n == 0)
      (has (s.word - PIN_COUNT) (held_by (state_of v.0).mask (state_of v.0).windows) ≡ false)
      (is_named (state_of v.0).windows (s.word - PIN_COUNT) ≡ true)

  -- one more pin
  abbrev pub Pins : Step S → Me S View → ℕ → Me S View → Type 0
  Pins s v n w = w ≡ (Writer (pinning_at (state_of v.0) (s.word - PIN_COUNT)), v.1)

  -- a copying pass loads
  abbrev pub Copies : Step S → Me S View → ℕ → Me S View → Type 0
  Copies s v n w = (w ≡ v)
      × (slice_index (copying_reader v.0).content (s.word - (copying_reader v.0).first) ≡ n)

  -- a copying pass releases its block
  abbrev pub Releases : Step S → Me S View → ℕ → Me S View → Type 0
  Releases s v n w = w ≡ (Idle (copying_reader v.0).known, v.1)
