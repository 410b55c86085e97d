use Rattle.run_verify.proofs.MaskTexts.{StandsUpto}
use Rattle.run_verify.proofs.reading.match_mask.Given as goal

abbrev pub invariant-loop-worker : goal.invariant-loop-worker
invariant-loop-worker l = StandsUpto l.line l.from l.mask l.at l.worker
