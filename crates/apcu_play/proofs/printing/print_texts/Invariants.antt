use Rattle.std.proofs.Common.{true, take}
use Rattle.reply_text.specs.Output.{worker_texts}
use Rattle.apcu_play.specs.Run.{WasWritten}
use Rattle.apcu_play.proofs.printing.print_texts.Given as goal

abbrev pub invariant-loop-worker : goal.invariant-loop-worker
invariant-loop-worker g l = WasWritten true (worker_texts 0 (take l.worker l.texts)) (g.K.Sink.held l.fn.out) (g.K.Sink.held l.out) (g.K.Sink.faults l.fn.out) (g.K.Sink.faults l.out)
