use Rattle.std.proofs.Common.{arith}
use Rattle.std.proofs.lemmas.Grind.{common_steps}
use Rattle.sma_blocks.proofs.stores.link_new.Goals as goal

pub returns-then-first-at-clause-alone : goal.returns-then-first-at-clause-alone
returns-then-first-at-clause-alone g c = grind (arith, common_steps)

pub returns-then-first-at-clause-touching : goal.returns-then-first-at-clause-touching
returns-then-first-at-clause-touching g c = grind (arith, common_steps)
