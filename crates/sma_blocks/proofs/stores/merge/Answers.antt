use Rattle.std.proofs.Common.{◌+◌, arith}
use Rattle.sma_blocks.proofs.WordsAfterTake.{may_store_after}
use Rattle.sma_blocks.proofs.AllocatorAfterTake.{may_store_seen}
use Rattle.sma_blocks.proofs.stores.merge.Goals as goal

pub store-requires-clause-apart : goal.store-requires-clause-apart
store-requires-clause-apart g c = c.requires.apart c.args.first (omega arith) (omega arith)

pub store-requires-2-clause-apart : goal.store-requires-2-clause-apart
store-requires-2-clause-apart g c =
    let ws = g.S.WordsIn.words c.args.seg.now in
    let aside = g.S.WordsIn.aside c.args.seg.now in
    may_store_seen _ (g.S.WordsIn.words c.store.new.self) aside (g.S.WordsIn.aside c.store.new.self) (c.args.first + 1) c.store.ensures.words c.store.ensures.aside
    (may_store_after ws aside.windows c.args.first (c.args.first + 1) (c.from.result + 1) (c.requires.apart c.args.first (omega arith) (omega arith)) (c.requires.apart (c.args.first + 1) (omega arith) (omega arith)))
