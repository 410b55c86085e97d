use Rattle.std.proofs.Common.{◌≡◌, ◌+◌, ◌*◌, ◌++◌, take, drop}
use Rattle.std.specs.Vec.{vec_len, vec_capacity}
use Rattle.seg_words.specs.Kept.{Kept}
use Rattle.value_image.specs.PackedBytes.{bytes_of}
use Rattle.value_image.proofs.bytes.push_bytes.Given as goal

abbrev pub invariant-eights : goal.invariant-eights
invariant-eights g l = record {
  bytes : l.bytes.items ≡ l.fn.out.items ++ bytes_of (take (8 * l.i) (drop l.at (g.W.WordsIn.words l.initial.from)));
  len : vec_len l.bytes ≡ vec_len l.fn.out + 64 * l.i;
  room : vec_capacity l.bytes ≡ vec_capacity l.fn.out;
  kept : Kept g.W.WordsIn l.initial.from l.from;
}

abbrev pub invariant-words : goal.invariant-words
invariant-words g l = record {
  bytes : l.bytes.items ≡ l.fn.out.items ++ bytes_of (take l.i (drop l.at (g.W.WordsIn.words l.initial.from)));
  len : vec_len l.bytes ≡ vec_len l.fn.out + 8 * l.i;
  room : vec_capacity l.bytes ≡ vec_capacity l.fn.out;
  kept : Kept g.W.WordsIn l.initial.from l.from;
}
