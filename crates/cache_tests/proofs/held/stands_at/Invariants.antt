use Rattle.std.proofs.Common.{◌≡◌, ◌⊎◌, true}
use Rattle.seg_words.specs.Kept.{Kept}
use Rattle.entry_slots.specs.Lists.{has_place}
use Rattle.entry_slots.specs.Standing.{entries}
use Rattle.cache_tests.proofs.held.stands_at.Given as goal

abbrev pub invariant-loop-passed : goal.invariant-loop-passed
invariant-loop-passed g l = record {
  there : (l.next ≡ 0) ⊎ (has_place l.next (entries l.slots).removed ≡ true);
  kept : Kept g.S.WordsIn l.fn.words l.words;
}
