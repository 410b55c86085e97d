use Rattle.std.proofs.Common.{◌≡◌, ◌+◌, ◌-◌, ◌≤◌, length, drop}
use Rattle.run_verify.specs.OutputLines.{first_line}
use Rattle.run_verify.proofs.reading.line_end.Given as goal

abbrev pub invariant-bytes : goal.invariant-bytes
invariant-bytes l = record {
  past : l.at ≤ l.end;
  within : l.end ≤ length l.output;
  long : first_line (drop l.at l.output) + l.at ≡ l.end + first_line (drop l.end l.output);
}

abbrev pub decreases-bytes : goal.decreases-bytes
decreases-bytes l = length l.output - l.end
