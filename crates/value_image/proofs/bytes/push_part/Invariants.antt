use Rattle.std.proofs.Common.{◌≡◌, ◌+◌, ◌++◌, take}
use Rattle.std.specs.Vec.{vec_len, vec_capacity}
use Rattle.byteorder.specs.Endian.{little_bytes}
use Rattle.value_image.proofs.bytes.push_part.Given as goal

abbrev pub invariant-bytes : goal.invariant-bytes
invariant-bytes l = record {
  bytes : l.out.items ≡ l.initial.out.items ++ take l.k (little_bytes 8 l.word);
  len : vec_len l.out ≡ vec_len l.initial.out + l.k;
  capacity : vec_capacity l.out ≡ vec_capacity l.initial.out;
}
