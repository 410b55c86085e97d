use Rattle.std.proofs.Common.{◌≡◌}
use Rattle.script_read.specs.Arguments.{bit_in}
use Rattle.script_read.specs.Gives.{bits_of}
use Rattle.script_read.proofs.FieldNames.{left}
use Rattle.script_read.proofs.fields.bit_in.Given as goal

abbrev pub invariant-loop-field : goal.invariant-loop-field
invariant-loop-field l = bit_in (bits_of l.fields) l.name ≡ left l.fields l.field-index l.name
