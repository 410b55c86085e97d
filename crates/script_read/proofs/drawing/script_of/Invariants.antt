use Rattle.std.proofs.Common.{◌≡◌, ◌-◌, ◌++◌, length}
use Rattle.script_read.proofs.DrawnScripts.{rest_of}
use Rattle.script_read.proofs.drawing.script_of.Given as goal

abbrev pub invariant-loop-call : goal.invariant-loop-call
invariant-loop-call l = record {
  whole : l.script ++ rest_of l.fn.worker l.fn.workers (l.fn.calls - l._call) l.state ≡ rest_of l.fn.worker l.fn.workers l.fn.calls l.fn.first;
  count : length l.script ≡ l._call;
}
