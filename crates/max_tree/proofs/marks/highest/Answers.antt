use Rattle.std.proofs.Common.{rules}
use Rattle.max_tree.proofs.FlagBits.{highest_low, highest_high}
use Rattle.max_tree.proofs.marks.highest.Goals as goal

pub returns-clause-low : goal.returns-clause-low
returns-clause-low c = highest_low c.args.marks c.requires (search rules)

pub returns-clause-high : goal.returns-clause-high
returns-clause-high c = highest_high c.args.marks c.requires (search rules)
