use Rattle.std.proofs.Common.{◌≡◌, take}
use Rattle.value_image.specs.Rows.{written}
use Rattle.seg_words.specs.Kept.{KeptBeside}
use Rattle.entry_slots.proofs.writing.put_words.Given as goal

abbrev pub invariant-loop-i : goal.invariant-loop-i
invariant-loop-i g l = record {
  words : g.S.WordsIn.words l.seg ≡ written (g.S.WordsIn.words l.fn.seg) l.at (take l.i l.run);
  beside : KeptBeside g.S.WordsIn l.fn.seg l.seg;
}
