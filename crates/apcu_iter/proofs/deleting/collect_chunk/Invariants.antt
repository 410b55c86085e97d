use Rattle.std.proofs.Common.{◌≡◌}
use Rattle.seg_words.specs.Kept.{Kept}
use Rattle.apcu_model.specs.Chunks.{items_between}
use Rattle.entry_slots.specs.Standing.{entries}
use Rattle.ttl_expunge.specs.Lists.{row_places}
use Rattle.row_search.specs.Choices.{uncounted}
use Rattle.apcu_iter.proofs.ChunkEnds.{Stepping}
use Rattle.apcu_iter.proofs.deleting.collect_chunk.Given as goal

abbrev pub invariant-loop-slot : goal.invariant-loop-slot
invariant-loop-slot g l = record {
  places : l.places.items ≡ row_places (items_between l.initial.test.pattern l.initial.test.t (uncounted (entries l.slots)) l.from l.slot);
  step : Stepping l.initial.test.pattern l.initial.test.t (uncounted (entries l.slots)) l.from l.size l.slot;
  test : l.test ≡ l.initial.test;
  kept : Kept g.S.WordsIn l.fn.seg l.seg;
}
