-- Two workers meet: what each has seen, the other has then seen as well.
use Rattle.std.specs.Prelude.{◌≡◌, ℕ, true, List}
use mathlib.Core.List.{IsPrefix}
use Rattle.apcu_model.specs.declared.conf.Conf.{Conf}
use Rattle.apcu_model.specs.declared.request.Event.{Event}
use Rattle.apcu_model.specs.History.{start_of, all_legal}
use Rattle.pin_table.specs.Values.{PassView}
use Rattle.pin_table.specs.Events.{events_of}

-- There was no event. The pass q is p, and has seen all events so far, which are these.
pub record Sees (conf : Conf) (workers : ℕ) (p q : PassView) (all : List Event) : Type 0 where
  pub table : q.table ≡ p.table
  pub worker : q.known.worker ≡ p.known.worker
  pub left : q.known.left ≡ p.known.left
  pub own : q.known.own ≡ p.known.own
  pub seen : q.known.seen ≡ all
  pub before : IsPrefix p.known.seen all
  pub all_own : events_of q.known.worker all ≡ q.known.own
  pub legal : all_legal workers (start_of conf) all ≡ true

-- Both have seen one history.
pub record Meets (conf : Conf) (workers : ℕ) (p q p1 q1 : PassView) : Type 0 where
  pub all : List Event
  pub first : Sees conf workers p p1 all
  pub second : Sees conf workers q q1 all
