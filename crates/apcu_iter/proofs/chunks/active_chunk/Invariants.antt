use Rattle.std.proofs.Common.{◌≡◌, map}
use Rattle.seg_words.specs.Kept.{Kept}
use Rattle.apcu_model.specs.Chunks.{item_of, items_between}
use Rattle.entry_slots.specs.Standing.{entries}
use Rattle.row_search.specs.Choices.{uncounted}
use Rattle.apcu_iter.proofs.ChunkEnds.{Stepping}
use Rattle.apcu_iter.proofs.chunks.active_chunk.Given as goal

abbrev pub invariant-loop-slot : goal.invariant-loop-slot
invariant-loop-slot g l = record {
  items : l.items.items ≡ map (item_of l.fields) (items_between l.initial.test.pattern l.initial.test.t (uncounted (entries l.slots)) l.from l.slot);
  step : Stepping l.initial.test.pattern l.initial.test.t (uncounted (entries l.slots)) l.from l.size l.slot;
  test : l.test ≡ l.initial.test;
  kept : Kept g.S.WordsIn l.fn.seg l.seg;
}
