use Rattle.apcu_model.proofs.RowsApart.{are_apart-filter, are_apart-map, are_apart-with_row}
use Rattle.apcu_model.proofs.laws.rows_stay_apart.Goals as goal

pub returns : goal.returns
returns c = record {
  picked = are_apart-filter;
  changed = λ change rows keeps. are_apart-map change keeps rows;
  more = are_apart-with_row;
}
