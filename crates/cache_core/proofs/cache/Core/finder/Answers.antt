use Rattle.std.proofs.Common.{ap, ◌∙◌}
use Rattle.entry_slots.specs.Entries.{Entries}
use Rattle.cache_core.proofs.cache.Core.finder.Goals as goal

pub finder-requires : goal.finder-requires
finder-requires c = record { stand = record { words = c.requires.stand.words; aside = c.requires.stand.aside; stand = c.requires.stand.stand.stand } }

pub returns : goal.returns
returns c = record { slots = c.finder.ensures.slots ∙ ap (λ (x : Entries). x.conf.slots) c.requires.stand.stand.whole; rows = c.finder.ensures.rows }
