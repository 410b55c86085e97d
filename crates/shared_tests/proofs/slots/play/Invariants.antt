use Rattle.seg_words.specs.Kept.{KeptBeside}
use Rattle.entry_slots.specs.Standing.{Stand}
use Rattle.shared_tests.proofs.slots.play.Given as goal

abbrev pub invariant-loop-i : goal.invariant-loop-i
invariant-loop-i g l = record {
  stand : Stand g.S.WordsIn l.slots l.seg;
  beside : KeptBeside g.S.WordsIn l.initial.seg l.seg;
}
