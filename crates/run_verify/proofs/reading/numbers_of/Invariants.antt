use Rattle.std.proofs.Common.{◌≡◌, ◌≤◌, drop, None}
use Rattle.run_verify.specs.Verdicts.{numbers_from}
use Rattle.run_verify.proofs.reading.numbers_of.Given as goal

abbrev pub invariant-loop-byte : goal.invariant-loop-byte
invariant-loop-byte l = record {
  low : l.number ≤ 64;
  read : numbers_from l.number l.mark (drop l.byte-index l.line) ≡ numbers_from 0 None l.line;
}
