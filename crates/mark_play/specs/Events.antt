-- Events whose requests are borrowed.
use Rattle.std.specs.Prelude.{ℕ}
use Rattle.apcu_model.specs.declared.request.Event.{Event}
use Rattle.apcu_model.specs.declared.request.Request.{Request}
use Rattle.apcu_model.specs.Asking.{asked}
use Rattle.mark_play.specs.declared.reached.Asked.{Asked}
use Rattle.mark_play.specs.declared.reached.Asked.TheVariants.{By}

-- a worker makes this request at the moment t, with this mask
abbrev pub event_by : ℕ → ℕ → Request → ℕ → Event
event_by worker mask request t = record {
  worker = worker;
  t = t;
  request = request;
  mask = mask;
}

abbrev pub event_in : Asked → Event
event_in (By worker t ask mask) = event_by worker mask (asked ask) t
