use Rattle.std.proofs.Common.{◌≡◌, length, drop}
use Rattle.script_read.specs.Arguments.{each, pair_at}
use Rattle.script_read.proofs.Members.{with_front}
use Rattle.script_read.proofs.choices.pairs_of.Given as goal

abbrev pub invariant-loop-i : goal.invariant-loop-i
invariant-loop-i l = record {
  found : with_front l.pairs (each (pair_at l.graph) (drop l.i l.members)) ≡ each (pair_at l.graph) l.members;
  few : length l.pairs ≡ l.i;
}
