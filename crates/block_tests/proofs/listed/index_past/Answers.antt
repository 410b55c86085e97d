use Rattle.std.proofs.Common.{length, arith}
use Rattle.seg_words.specs.declared.gaps.Extent.{Extent}
use Rattle.block_tests.proofs.LiveBlocks.{with_block-insert}
use Rattle.block_tests.proofs.listed.index_past.Goals as goal

abbrev nothing : Extent
nothing = record { place = 0; size = 0 }

pub returns-then-place-block-clause-there : goal.returns-then-place-block-clause-there
returns-then-place-block-clause-there c = λ size.
    with_block-insert (record { place = c.args.place; size = size }) nothing c.args.blocks.now c.loop-i.i (omega arith) (λ k lt. c.loop-i.invariant k nothing lt) (λ lt. c.if-place-block.true)

pub returns-clause-there : goal.returns-clause-there
returns-clause-there c = λ size.
    with_block-insert (record { place = c.args.place; size = size }) nothing c.args.blocks.now (length c.args.blocks.now) (omega arith) (λ k lt. c.loop-i.invariant k nothing (omega arith)) (λ lt. absurd (omega arith))
