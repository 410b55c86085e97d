use Rattle.std.proofs.Common.{◌∙◌, arith}
use Rattle.cache_core.proofs.SaturatingCounts.{risen_by_is}
use Rattle.cache_core.proofs.cache_counts.risen.Goals as goal

pub returns : goal.returns
returns c =
    c.saturating_add.ensures
    ∙ risen_by_is c.args.n c.args.count (omega (arith, c.ranges.count.fits))
