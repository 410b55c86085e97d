use Rattle.std.proofs.Common.{length, ap, arith}
use Rattle.max_tree.proofs.PairLemmas.{halves_length, zero_halves}
use Rattle.max_tree.proofs.pairs.PairRow.clear.Goals as goal

pub returns-clause-count : goal.returns-clause-count
returns-clause-count c = omega (arith, halves_length c.clear.new.self, halves_length c.self.inside.row, c.clear.ensures.count, ap length c.self.view_is)

pub returns-clause-zeros : goal.returns-clause-zeros
returns-clause-zeros c = zero_halves c.clear.new.self c.clear.ensures.zeros
