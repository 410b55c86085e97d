use Rattle.std.proofs.Common.{◌≡◌}
use Rattle.script_read.proofs.FieldBits.{with_bits, bits_behind}
use Rattle.script_read.proofs.searches.fields_of.Given as goal

abbrev pub invariant-loop-i : goal.invariant-loop-i
invariant-loop-i l = with_bits l.bits (bits_behind l.graph l.members l.i) ≡ with_bits 0 (bits_behind l.graph l.members 0)
