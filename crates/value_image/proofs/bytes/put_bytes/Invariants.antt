use Rattle.std.proofs.Common.{◌≡◌, ◌*◌, take}
use Rattle.seg_words.specs.Kept.{KeptBeside}
use Rattle.value_image.specs.PackedBytes.{words_of}
use Rattle.value_image.specs.Rows.{written}
use Rattle.value_image.proofs.bytes.put_bytes.Given as goal

abbrev pub invariant-eights : goal.invariant-eights
invariant-eights g l = record {
  words : g.S.WordsIn.words l.seg ≡ written (g.S.WordsIn.words l.fn.seg) l.at (take (8 * l.i) (words_of l.bytes));
  beside : KeptBeside g.S.WordsIn l.fn.seg l.seg;
}

abbrev pub invariant-words : goal.invariant-words
invariant-words g l = record {
  words : g.S.WordsIn.words l.seg ≡ written (g.S.WordsIn.words l.fn.seg) l.at (take l.i (words_of l.bytes));
  beside : KeptBeside g.S.WordsIn l.fn.seg l.seg;
}
