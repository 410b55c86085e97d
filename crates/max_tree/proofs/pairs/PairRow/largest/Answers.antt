use Rattle.std.proofs.Common.{ap, arith}
use Rattle.max_tree.specs.Pages.{largest}
use Rattle.max_tree.proofs.PairLemmas.{largest_halves}
use Rattle.max_tree.proofs.pairs.PairRow.largest.Goals as goal

pub returns-clause-is : goal.returns-clause-is
returns-clause-is c = omega (arith, c.largest.ensures, largest_halves c.self.inside.row c.self.invariant.1, ap largest c.self.view_is)
