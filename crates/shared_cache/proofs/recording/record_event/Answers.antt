use Rattle.std.proofs.Common.{arith}
use Rattle.std.proofs.lemmas.Grind.{common_steps}
use Rattle.shared_cache.proofs.recording.record_event.Goals as goal

pub returns-clause-marks : goal.returns-clause-marks
returns-clause-marks c = grind (arith, common_steps)

pub returns-clause-room : goal.returns-clause-room
returns-clause-room c = grind (arith, common_steps)

pub returns-clause-small : goal.returns-clause-small
returns-clause-small c = grind (arith, common_steps)
