use Rattle.std.proofs.Common.{◌∙◌, map, filter, length, ap, arith}
use Rattle.std.proofs.lemmas.List.{length-map}
use Rattle.apcu_model.specs.Chunks.{item_of}
use Rattle.apcu_model.specs.declared.items.ItemRow.{ItemRow}
use Rattle.entry_slots.specs.Standing.{entries}
use Rattle.row_search.specs.Choices.{is_chosen}
use Rattle.apcu_iter.proofs.ChunkItems.{deleted_is}
use Rattle.apcu_iter.proofs.RowBounds.{are_few, fewer}
use Rattle.apcu_iter.proofs.chunks.removed_chunk.Goals as goal

pub from_vec-requires : goal.from_vec-requires
from_vec-requires g c =
    let s = entries c.args.slots.now in
    let few = are_few c.args.slots.now (g.S.WordsIn.words c.args.seg.now) (g.S.WordsIn.aside c.args.seg.now) s c.requires.stand in
    omega (arith, few.count, few.most, ap (length {A = ItemRow}) c.in_ok-items.ensures.items, length-map (filter (is_chosen c.args.test.now) s.removed) (item_of c.args.fields), fewer (is_chosen c.args.test.now) s.removed)

pub returns-clause-chunk : goal.returns-clause-chunk
returns-clause-chunk g c =
    let s = entries c.args.slots.now in
    let items = c.from_vec.ensures ∙ c.in_ok-items.ensures.items ∙ ap (map (item_of c.args.fields)) (deleted_is c.args.test.now s.removed c.requires.list) in
    λ i. record { next = c.slots.ensures.slots i; items = items i }
