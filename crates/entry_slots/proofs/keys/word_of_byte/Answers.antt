use Rattle.std.proofs.Common.{arith}
use Rattle.std.proofs.lemmas.Grind.{common_steps}
use Rattle.entry_slots.proofs.keys.word_of_byte.Goals as goal

pub returns-then-i-eq0-clause-word : goal.returns-then-i-eq0-clause-word
returns-then-i-eq0-clause-word c = grind (arith, common_steps)

pub returns-then-i-eq0-clause-kept : goal.returns-then-i-eq0-clause-kept
returns-then-i-eq0-clause-kept c = grind (arith, common_steps)

pub returns-else-i-eq0-clause-word : goal.returns-else-i-eq0-clause-word
returns-else-i-eq0-clause-word c = grind (arith, common_steps)

pub returns-else-i-eq0-clause-kept : goal.returns-else-i-eq0-clause-kept
returns-else-i-eq0-clause-kept c = grind (arith, common_steps)
