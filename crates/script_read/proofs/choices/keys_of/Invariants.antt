use Rattle.std.proofs.Common.{◌≡◌, length, drop}
use Rattle.script_read.specs.Arguments.{each, member_string}
use Rattle.script_read.proofs.Members.{with_front}
use Rattle.script_read.proofs.choices.keys_of.Given as goal

abbrev pub invariant-loop-i : goal.invariant-loop-i
invariant-loop-i l = record {
  found : with_front l.keys (each (λ m. member_string l.graph m.1) (drop l.i l.members)) ≡ each (λ m. member_string l.graph m.1) l.members;
  few : length l.keys ≡ l.i;
}
