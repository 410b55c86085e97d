use Rattle.std.proofs.Common.{◌≡◌, ◌-◌, ◌++◌, length}
use Rattle.script_read.specs.GeneratedScripts.{generated}
use Rattle.script_read.proofs.DrawnScripts.{rest_from}
use Rattle.script_read.proofs.drawing.generate.Given as goal

abbrev pub invariant-loop-worker : goal.invariant-loop-worker
invariant-loop-worker l = record {
  whole : l.scripts ++ rest_from l.fn.seed l.fn.workers l.fn.calls l.worker (l.fn.workers - l.worker) ≡ generated l.fn.seed l.fn.workers l.fn.calls;
  count : length l.scripts ≡ l.worker;
}
