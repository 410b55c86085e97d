use Rattle.std.proofs.Common.{arith}
use Rattle.std.proofs.lemmas.Grind.{common_steps}
use Rattle.pin_table.proofs.table.PinTable.new.Goals as goal

pub of_words-requires-clause-some_word : goal.of_words-requires-clause-some_word
of_words-requires-clause-some_word c = grind (arith, common_steps)

pub of_words-requires-clause-short : goal.of_words-requires-clause-short
of_words-requires-clause-short c = grind (arith, common_steps)

pub of_words-requires-clause-few : goal.of_words-requires-clause-few
of_words-requires-clause-few c = grind (arith, common_steps)

pub of_words-requires-clause-windows : goal.of_words-requires-clause-windows
of_words-requires-clause-windows c = grind (arith, common_steps)

pub fill-requires-clause-table : goal.fill-requires-clause-table
fill-requires-clause-table c = grind (arith, common_steps)

pub fill-requires-clause-log : goal.fill-requires-clause-log
fill-requires-clause-log c = grind (arith, common_steps)

pub fill-requires-clause-few : goal.fill-requires-clause-few
fill-requires-clause-few c = grind (arith, common_steps)

pub fill-requires-clause-list : goal.fill-requires-clause-list
fill-requires-clause-list c = grind (arith, common_steps)

pub fill-requires-clause-room : goal.fill-requires-clause-room
fill-requires-clause-room c = grind (arith, common_steps)

pub returns-clause-table : goal.returns-clause-table
returns-clause-table c = grind (arith, common_steps)

pub returns-clause-count : goal.returns-clause-count
returns-clause-count c = grind (arith, common_steps)

pub returns-clause-state : goal.returns-clause-state
returns-clause-state c = grind (arith, common_steps)

pub returns-clause-passes : goal.returns-clause-passes
returns-clause-passes c = grind (arith, common_steps)

pub returns-clause-ended : goal.returns-clause-ended
returns-clause-ended c = grind (arith, common_steps)

pub returns-clause-room : goal.returns-clause-room
returns-clause-room c = grind (arith, common_steps)
