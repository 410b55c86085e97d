use Rattle.apcu_model.proofs.RowNumbers.{below, later, one_row}
use Rattle.apcu_model.proofs.laws.rows_keep_numbers.Goals as goal

pub returns : goal.returns
returns c = record { below = below; later = later; one = one_row }
