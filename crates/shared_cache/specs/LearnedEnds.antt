-- What a worker learns of another one's end.
use Rattle.std.specs.Prelude.{◌≡◌, ℕ, true}
use mathlib.Core.List.{IsPrefix}
use Rattle.apcu_model.specs.declared.conf.Conf.{Conf}
use Rattle.apcu_model.specs.History.{start_of, all_legal}
use Rattle.pin_table.specs.Values.{PassView}
use Rattle.pin_table.specs.Events.{events_of}

-- There was no event. The pass q is p, and has also seen what the ended worker had seen.
pub record Learns (conf : Conf) (workers : ℕ) (p q ended : PassView) : Type 0 where
  pub table : q.table ≡ p.table
  pub worker : q.known.worker ≡ p.known.worker
  pub left : q.known.left ≡ p.known.left
  pub own : q.known.own ≡ p.known.own
  pub before : IsPrefix p.known.seen q.known.seen
  pub other : IsPrefix ended.known.seen q.known.seen
  pub all_own : events_of q.known.worker q.known.seen ≡ q.known.own
  pub legal : all_legal workers (start_of conf) q.known.seen ≡ true
