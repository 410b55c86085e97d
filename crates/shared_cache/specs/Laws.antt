-- What the crates below promise of all windows, entries and histories: see their public laws.
use Rattle.std.specs.Prelude.{◌≡◌, ◌≤◌, true, List, length}
use Rattle.apcu_model.specs.declared.conf.Conf.{Conf}
use Rattle.apcu_model.specs.declared.request.Event.{Event}
use Rattle.apcu_model.specs.declared.journal.TheConstants.{MOST_EVENTS}
use Rattle.apcu_model.specs.History.{IsNumbered, are_shallow, stage_of}
use Rattle.apcu_model.specs.Laws.{EventsKeep, HeldAlike, OneEventMore}
use Rattle.entry_slots.specs.Laws.{StandingLaws, WindowLaws}
use Rattle.pin_table.specs.Laws.{RuleLaws}

pub record LockLaws : Type 0 where
  pub rule : RuleLaws
  pub windows : WindowLaws
  pub standing : StandingLaws
  pub more : OneEventMore
  pub alike : HeldAlike
  pub keep : EventsKeep
  -- rows of one number have one place, each worker has one window, and none is of a row that holds
  -- null, a boolean or an integer
  pub numbered : (conf : Conf) (history : List Event) → length history ≤ MOST_EVENTS
      → are_shallow history ≡ true → IsNumbered (stage_of conf history)
