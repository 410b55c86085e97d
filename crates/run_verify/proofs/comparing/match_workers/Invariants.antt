use Rattle.std.proofs.Common.{take}
use Rattle.run_verify.specs.TextPieces.{HasPiece}
use Rattle.reply_text.specs.Output.{worker_texts}
use Rattle.run_verify.proofs.comparing.match_workers.Given as goal

abbrev pub invariant-loop-worker : goal.invariant-loop-worker
invariant-loop-worker l = HasPiece l.output 0 (worker_texts 0 (take l.worker l.texts)) l.at
