-- What the crates below promise of all entries and caches: see their public laws.
use Rattle.apcu_model.specs.Laws.{CountLaws}
use Rattle.entry_slots.specs.Laws.{StandingLaws}
use Rattle.ttl_expunge.specs.Laws.{DropLaws}

pub record CacheLaws : Type 0 where
  pub standing : StandingLaws
  pub drops : DropLaws
  pub counts : CountLaws
