-- The state and the passes at the start, and lists of passes.
use Rattle.std.specs.Prelude.{◌≡◌, ℕ, zero, suc, List, [], ◌∷◌, ◌++◌, length, map, replicate, None}
use Rattle.std.specs.Prelude.{Some, slice_get}
use Rattle.atomic_table.specs.Seated.{TableId}
use Rattle.pin_table.specs.declared.views.Known.{Known}
use Rattle.pin_table.specs.declared.views.EventLog.{EventLog}
use Rattle.pin_table.specs.declared.views.WriterState.{WriterState}
use Rattle.pin_table.specs.Views.{newcomer}
use Rattle.pin_table.specs.Values.{PassView}

-- the log after the first n workers were made, before any event
abbrev pub first_log : List ℕ → ℕ → EventLog
first_log budgets n = record {
  history = [];
  hand = None;
  made = n;
  budgets = budgets;
  closed = [];
}

-- the state over these words when all workers were made: no window is open
abbrev pub first_state : List ℕ → List ℕ → WriterState
first_state words budgets = record {
  words = words;
  log = first_log budgets (length budgets);
  windows = replicate (length budgets) 0;
  begun = [];
  mask = 0;
  readings = [];
  pinning = 0;
}

-- the pass of the worker n: it has seen no event, and has its budget left
abbrev pub first_pass : TableId → List ℕ → ℕ → PassView
first_pass t budgets n = record { table = t; known = newcomer (first_log budgets n) }

-- the passes of the first n workers
abbrev pub first_passes : TableId → List ℕ → ℕ → List PassView
first_passes t budgets zero = []
first_passes t budgets (suc n) = first_passes t budgets n ++ first_pass t budgets n ∷ []

-- what they know
abbrev pub known_list : List PassView → List Known
known_list bs = map (λ (b : PassView). b.known) bs

-- all of them are of this table
abbrev pub AllOf : TableId → List PassView → Type 0
AllOf t bs = (k : ℕ) → (b : PassView) → slice_get bs k ≡ Some b → b.table ≡ t

-- the workers that have ended, and for how many more there is room
pub record Gathered : Type 0 where
  pub ended : List PassView
  pub room : ℕ
