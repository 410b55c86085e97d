use Rattle.std.proofs.Common.{arith}
use Rattle.std.proofs.lemmas.Grind.{common_steps}
use Rattle.shared_cache.proofs.opening.open_cache.Goals as goal

pub returns-then-not-good-clause-conf : goal.returns-then-not-good-clause-conf
returns-then-not-good-clause-conf c = grind (arith, common_steps)

pub returns-then-not-good-clause-budgets : goal.returns-then-not-good-clause-budgets
returns-then-not-good-clause-budgets c = grind (arith, common_steps)

pub returns-then-not-good-clause-good : goal.returns-then-not-good-clause-good
returns-then-not-good-clause-good c = grind (arith, common_steps)

pub returns-then-not-good-clause-bad : goal.returns-then-not-good-clause-bad
returns-then-not-good-clause-bad c = grind (arith, common_steps)

pub returns-then-not-good-clause-memory : goal.returns-then-not-good-clause-memory
returns-then-not-good-clause-memory c = grind (arith, common_steps)

pub returns-in_default-clause-conf : goal.returns-in_default-clause-conf
returns-in_default-clause-conf c = grind (arith, common_steps)

pub returns-in_default-clause-budgets : goal.returns-in_default-clause-budgets
returns-in_default-clause-budgets c = grind (arith, common_steps)

pub returns-in_default-clause-good : goal.returns-in_default-clause-good
returns-in_default-clause-good c = grind (arith, common_steps)

pub returns-in_default-clause-bad : goal.returns-in_default-clause-bad
returns-in_default-clause-bad c = grind (arith, common_steps)

pub returns-in_default-clause-memory : goal.returns-in_default-clause-memory
returns-in_default-clause-memory c = grind (arith, common_steps)

pub returns-in_err-opened-clause-conf : goal.returns-in_err-opened-clause-conf
returns-in_err-opened-clause-conf c = grind (arith, common_steps)

pub returns-in_err-opened-clause-budgets : goal.returns-in_err-opened-clause-budgets
returns-in_err-opened-clause-budgets c = grind (arith, common_steps)

pub returns-in_err-opened-clause-good : goal.returns-in_err-opened-clause-good
returns-in_err-opened-clause-good c = grind (arith, common_steps)

pub returns-in_err-opened-clause-bad : goal.returns-in_err-opened-clause-bad
returns-in_err-opened-clause-bad c = grind (arith, common_steps)

pub returns-in_err-opened-clause-memory : goal.returns-in_err-opened-clause-memory
returns-in_err-opened-clause-memory c = grind (arith, common_steps)

pub returns-clause-conf : goal.returns-clause-conf
returns-clause-conf c = grind (arith, common_steps)

pub returns-clause-budgets : goal.returns-clause-budgets
returns-clause-budgets c = grind (arith, common_steps)

pub returns-clause-good : goal.returns-clause-good
returns-clause-good c = grind (arith, common_steps)

pub returns-clause-bad : goal.returns-clause-bad
returns-clause-bad c = grind (arith, common_steps)

pub returns-clause-memory : goal.returns-clause-memory
returns-clause-memory c = grind (arith, common_steps)
