use Rattle.std.proofs.Common.{ap, ◌∙◌}
use Rattle.apcu_model.specs.SlotOrder.{slot_of}
use Rattle.entry_slots.specs.Entries.{Entries}
use Rattle.cache_core.proofs.cache.Core.slot_of_hash.Goals as goal

pub slot_of_hash-requires : goal.slot_of_hash-requires
slot_of_hash-requires c = record { stand = record { words = c.requires.stand.words; aside = c.requires.stand.aside; stand = c.requires.stand.stand.stand } }

pub returns : goal.returns
returns c = record { slot = λ key is. c.slot_of_hash.ensures.slot key is ∙ ap (λ (x : Entries). slot_of x.conf key) c.requires.stand.stand.whole }
