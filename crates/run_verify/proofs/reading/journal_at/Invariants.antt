use Rattle.std.proofs.Common.{◌≡◌, ◌≤◌, length, drop, None}
use Rattle.run_verify.specs.OutputLines.{begins_line}
use Rattle.run_verify.specs.Verdicts.{journal_from}
use Rattle.run_verify.proofs.reading.journal_at.Given as goal

abbrev pub invariant-back : goal.invariant-back
invariant-back l = record {
  within : l.at ≤ length l.output;
  none : journal_from (begins_line l.output l.at) (drop l.at l.output) ≡ None;
}

abbrev pub decreases-back : goal.decreases-back
decreases-back l = l.at
