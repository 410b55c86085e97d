use Rattle.std.proofs.Common.{arith}
use Rattle.std.proofs.lemmas.Grind.{common_steps}
use Rattle.row_search.proofs.row_test.RowTest.matches.Goals as goal

pub returns-clause-matches : goal.returns-clause-matches
returns-clause-matches c = grind (arith, common_steps)

pub returns-clause-same : goal.returns-clause-same
returns-clause-same c = grind (arith, common_steps)
