use Rattle.std.proofs.Common.{◌≡◌, ◌∙◌}
use Rattle.std.proofs.lemmas.Result.{IfOk-weaker}
use Rattle.apcu_model.specs.declared.items.Chunk.{Chunk}
use Rattle.apcu_model.specs.declared.searching.List.TheVariants.{Active, Deleted}
use Rattle.apcu_model.specs.Chunks.{chunk_of}
use Rattle.entry_slots.specs.Standing.{entries}
use Rattle.cache_core.specs.CoreCache.{cache_of}
use Rattle.row_search.specs.Choices.{uncounted}
use Rattle.apcu_iter.proofs.ChunkItems.{active_told, deleted_told}
use Rattle.apcu_iter.proofs.chunks.chunk.Goals as goal

pub returns-in-Active-clause-chunk : goal.returns-in-Active-clause-chunk
returns-in-Active-clause-chunk g c =
    let core = c.args.core.now in
    let test = c.in_ok-test.test in
    let told = active_told core c.slots-slots.result.now test c.args.search.now c.args.list c.args.fields c.args.from c.args.size c.args.t c.slots-slots.ensures.value c.requires.stand.whole c.in_ok-test.ensures c.in-Active.is in
    IfOk-weaker c.active_chunk.result
    (λ (x : Chunk). x ≡ chunk_of test.pattern c.args.from c.args.size Active c.args.fields test.t (uncounted (entries c.slots-slots.result.now)))
    (λ (x : Chunk). x ≡ chunk_of c.args.search.now c.args.from c.args.size c.args.list c.args.fields c.args.t (cache_of core))
    (λ x is. is ∙ told) c.active_chunk.ensures.chunk

pub returns-clause-chunk : goal.returns-clause-chunk
returns-clause-chunk g c =
    let core = c.args.core.now in
    let test = c.in_ok-test.test in
    let told = deleted_told core c.slots-slots.result.now test c.args.search.now c.args.list c.args.fields c.args.from c.args.size c.args.t c.slots-slots.ensures.value c.requires.stand.whole c.in_ok-test.ensures c.in-Deleted.is in
    IfOk-weaker c.removed_chunk.result
    (λ (x : Chunk). x ≡ chunk_of test.pattern 0 0 Deleted c.args.fields 0 (uncounted (entries c.slots-slots.result.now)))
    (λ (x : Chunk). x ≡ chunk_of c.args.search.now c.args.from c.args.size c.args.list c.args.fields c.args.t (cache_of core))
    (λ x is. is ∙ told) c.removed_chunk.ensures.chunk
