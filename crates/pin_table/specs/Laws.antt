-- The laws of this crate, as records that callers pass on.
use Rattle.apcu_model.specs.declared.request.Event.{Event}
use Rattle.pin_table.specs.Events.{events_of, fetched_last, is_fetch}
use Rattle.pin_table.specs.Order.{Carried}
use Rattle.pin_table.specs.Rule.{Rule}
use Rattle.pin_table.specs.declared.views.View.{View}
use Rattle.seg_words.specs.Windows.{has, held_by, is_named}
use Rattle.std.specs.Int.{bit_at}
use Rattle.std.specs.Prelude.{Bool, List, [], cond, true, ℕ, ◌++◌, ◌<◌, ◌==◌, ◌∷◌, ◌≡◌}
use lib.ListN.{get_elem?}
use mathlib.Core.Option.{some}

-- what follows from the definitions of the rule
pub record RuleLaws : Type 0 where
  pub carried : (words : List ℕ) (views : List View) → Carried words views → Rule words views
  pub named : (windows : List ℕ) (v at : ℕ) → get_elem? windows v ≡ some at → 0 < at
      → is_named windows at ≡ true
  pub there : (windows : List ℕ) (at : ℕ) → is_named windows at ≡ true → (0 < at) × ((v : ℕ)
      × (get_elem? windows v ≡ some at))
  pub held : (mask : ℕ) (windows : List ℕ) (at : ℕ) → has at (held_by mask windows) ≡ true
      → (v : ℕ) × (bit_at mask v ≡ 1) × (get_elem? windows v ≡ some at)
  pub holds : (mask : ℕ) (windows : List ℕ) (v at : ℕ) → bit_at mask v ≡ 1 → get_elem? windows v
      ≡ some at → 0 < at → has at (held_by mask windows) ≡ true
  pub own : (w : ℕ) (es : List Event) (e : Event) → events_of w (es ++ e ∷ [])
      ≡ cond (e.worker == w) (events_of w es ++ e ∷ []) (events_of w es)
  pub last : (w : ℕ) (es : List Event) (e : Event) (b : Bool) → fetched_last w (es ++ e ∷ []) b
      ≡ cond (e.worker == w) (is_fetch e.request) (fetched_last w es b)
