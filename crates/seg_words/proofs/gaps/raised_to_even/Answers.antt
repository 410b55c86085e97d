use Rattle.std.proofs.Common.{arith}
use Rattle.std.proofs.lemmas.Grind.{common_steps}
use Rattle.seg_words.proofs.gaps.raised_to_even.Goals as goal

pub returns-clause-even : goal.returns-clause-even
returns-clause-even c = grind (arith, common_steps)

pub returns-clause-up : goal.returns-clause-up
returns-clause-up c = grind (arith, common_steps)

pub returns-clause-near : goal.returns-clause-near
returns-clause-near c = grind (arith, common_steps)
