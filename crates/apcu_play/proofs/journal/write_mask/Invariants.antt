use Rattle.std.proofs.Common.{◌≡◌, ◌++◌}
use Rattle.reply_text.specs.Output.{mask_text}
use Rattle.apcu_play.proofs.journal.write_mask.Given as goal

abbrev pub invariant-loop-worker : goal.invariant-loop-worker
invariant-loop-worker l = l.out ≡ l.initial.out ++ mask_text l.mask l.worker
