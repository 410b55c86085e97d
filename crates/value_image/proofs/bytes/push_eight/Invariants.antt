use Rattle.std.proofs.Common.{◌≡◌, ◌+◌, ◌*◌, ◌++◌, take}
use Rattle.std.specs.Vec.{vec_len, vec_capacity}
use Rattle.value_image.specs.PackedBytes.{bytes_of}
use Rattle.value_image.proofs.bytes.push_eight.Given as goal

abbrev pub invariant-words : goal.invariant-words
invariant-words l = record {
  bytes : l.out.items ≡ l.initial.out.items ++ bytes_of (take l.k l.words);
  len : vec_len l.out ≡ vec_len l.initial.out + 8 * l.k;
  capacity : vec_capacity l.out ≡ vec_capacity l.initial.out;
}
