use Rattle.std.proofs.Common.{arith}
use Rattle.std.proofs.lemmas.Grind.{common_steps}
use Rattle.seg_words.proofs.vec_words.VecWordsSegment.probe.Goals as goal

pub returns-clause-words : goal.returns-clause-words
returns-clause-words c = grind (arith, common_steps)

pub returns-clause-free : goal.returns-clause-free
returns-clause-free c = grind (arith, common_steps)

pub returns-clause-held : goal.returns-clause-held
returns-clause-held c = grind (arith, common_steps)

pub returns-clause-rest : goal.returns-clause-rest
returns-clause-rest c = grind (arith, common_steps)
