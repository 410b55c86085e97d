use Rattle.std.proofs.Common.{◌≤◌, ◌+◌, length}
use Rattle.script_read.specs.Calls.{last_moment}
use Rattle.apcu_model.specs.declared.limits.TheConstants.{MOST_WORKERS}
use Rattle.script_read.specs.GrowingScripts.{last_len}
use Rattle.script_read.specs.Reading.{scripts_at}
use Rattle.script_read.proofs.LineLoop.{IsSoFar}
use Rattle.script_read.proofs.reading.scripts.Given as goal

abbrev pub invariant-loop-rest : goal.invariant-loop-rest
invariant-loop-rest l = record {
  so_far : IsSoFar l.scripts l.moments l.rest (scripts_at l.bytes);
  soon : (l.moments.t ≤ last_moment) × (l.moments.start ≤ last_moment);
  few : last_len l.scripts + length l.rest ≤ length l.bytes;
  workers : length l.scripts ≤ MOST_WORKERS;
}

abbrev pub decreases-loop-rest : goal.decreases-loop-rest
decreases-loop-rest l = length l.rest
