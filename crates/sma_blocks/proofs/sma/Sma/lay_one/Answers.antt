use Rattle.std.proofs.Common.{arith}
use Rattle.sma_blocks.proofs.sma.Sma.lay_one.Goals as goal

pub merge-requires-clause-apart : goal.merge-requires-clause-apart
merge-requires-clause-apart g c = λ i low high.
    let even = c.requires.even in
    let lt = c.requires.some in
    c.requires.apart i low (omega arith)
