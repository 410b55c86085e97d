use Rattle.std.proofs.Common.{arith}
use Rattle.std.proofs.lemmas.Grind.{common_steps}
use Rattle.seg_words.proofs.vec_words.VecWordsSegment.mask.Goals as goal

pub returns : goal.returns
returns c = grind (arith, common_steps)
