-- Events, and those of one worker in a history.
use Rattle.std.specs.Prelude.{◌≡◌, ℕ, Bool, true, false, ◌==◌, cond, List, [], ◌∷◌, None, Some}
use Rattle.std.specs.List.{last_or}
use Rattle.apcu_model.specs.declared.request.Event.{Event}
use Rattle.apcu_model.specs.declared.request.Request.{Request}
use Rattle.apcu_model.specs.declared.request.Request.TheVariants as request

-- the worker w makes the request r at the moment t, with this mask
abbrev pub event : ℕ → ℕ → Request → ℕ → Event
event w t r mask = record { worker = w; t = t; request = r; mask = mask }

abbrev pub is_fetch : Request → Bool
is_fetch (request.Fetch key) = true
is_fetch _ = false

-- the events of the worker w, in order
abbrev pub events_of : ℕ → List Event → List Event
events_of w [] = []
events_of w (e ∷ es) = cond (e.worker == w) (e ∷ events_of w es) (events_of w es)

-- whether the last event of the worker w is a fetch; if it has none, `before`
abbrev pub fetched_last : ℕ → List Event → Bool → Bool
fetched_last w [] before = before
fetched_last w (e ∷ es) before =
    fetched_last w es (cond (e.worker == w) (is_fetch e.request) before)

-- the last of these events is the end of the worker w
abbrev pub HasRetired : ℕ → List Event → Type 0
HasRetired w es = (mask : ℕ) × (last_or None es ≡ Some (event w 0 request.Retire mask))
