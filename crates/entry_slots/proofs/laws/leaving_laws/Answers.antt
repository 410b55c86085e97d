use Rattle.entry_slots.proofs.UnlinkOutcome.{drops, goes, shorter}
use Rattle.entry_slots.proofs.laws.leaving_laws.Goals as goal

pub returns-clause-drops : goal.returns-clause-drops
returns-clause-drops c = λ e words aside s at t h there. drops s h at there t

pub returns-clause-goes : goal.returns-clause-goes
returns-clause-goes c = λ e words aside s at h there. goes s h at there

pub returns-clause-shorter : goal.returns-clause-shorter
returns-clause-shorter c = shorter
