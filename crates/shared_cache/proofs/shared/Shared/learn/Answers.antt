use Rattle.std.proofs.Common.{arith}
use Rattle.std.proofs.lemmas.Grind.{common_steps}
use Rattle.shared_cache.proofs.shared.Shared.learn.Goals as goal

pub returns-clause-learns : goal.returns-clause-learns
returns-clause-learns c = grind (arith, common_steps)

pub returns-clause-same : goal.returns-clause-same
returns-clause-same c = grind (arith, common_steps)
