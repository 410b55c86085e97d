use Rattle.std.proofs.Common.{◌≡◌, ◌*◌, take, drop}
use Rattle.seg_words.specs.Kept.{Kept}
use Rattle.value_image.specs.PackedBytes.{bytes_of}
use Rattle.value_image.proofs.bytes.get_bytes.Given as goal

abbrev pub invariant-eights : goal.invariant-eights
invariant-eights g l = record {
  bytes : take (64 * l.i) l.out ≡ bytes_of (take (8 * l.i) (drop l.at (g.W.WordsIn.words l.fn.from)));
  kept : Kept g.W.WordsIn l.fn.from l.from;
}

abbrev pub invariant-words : goal.invariant-words
invariant-words g l = record {
  bytes : take (8 * l.i) l.out ≡ bytes_of (take l.i (drop l.at (g.W.WordsIn.words l.fn.from)));
  kept : Kept g.W.WordsIn l.fn.from l.from;
}
