use Rattle.max_tree.proofs.PairLemmas.{halves_length, zero_halves}
use Rattle.max_tree.proofs.pairs.PairRow.new.Goals as goal

pub returns-clause-count : goal.returns-clause-count
returns-clause-count c = halves_length c.args.row

pub returns-clause-zeros : goal.returns-clause-zeros
returns-clause-zeros c = zero_halves c.args.row c.requires
