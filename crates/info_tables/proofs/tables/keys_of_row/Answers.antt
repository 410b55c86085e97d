use Rattle.info_tables.proofs.tables.keys_of_row.Goals as goal

pub returns-clause-cells : goal.returns-clause-cells
returns-clause-cells c = λ place. c.keys_of.ensures.cells place
