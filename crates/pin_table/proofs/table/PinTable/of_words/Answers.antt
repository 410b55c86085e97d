use Rattle.std.proofs.Common.{arith}
use Rattle.std.proofs.lemmas.Grind.{common_steps}
use Rattle.pin_table.proofs.RuleSteps as ruled
use Rattle.pin_table.specs.declared.views.Start.{Start}
use Rattle.pin_table.proofs.table.PinTable.of_words.Goals as goal

pub of_words-requires : goal.of_words-requires
of_words-requires c = let s : Start = record { words = c.args.words; budgets = c.args.budgets } in rw c.as_slice.ensures.value (ruled.opens s c.requires.few)

pub returns-in_err-table-clause-table : goal.returns-in_err-table-clause-table
returns-in_err-table-clause-table c = grind (arith, common_steps)

pub returns-in_err-table-clause-count : goal.returns-in_err-table-clause-count
returns-in_err-table-clause-count c = grind (arith, common_steps)

pub returns-in_err-table-clause-state : goal.returns-in_err-table-clause-state
returns-in_err-table-clause-state c = grind (arith, common_steps)

pub invariant_of-result : goal.invariant_of-result
invariant_of-result c = grind (arith, common_steps)

pub invariant_of-result-2 : goal.invariant_of-result-2
invariant_of-result-2 c = grind (arith, common_steps)

pub returns-clause-table : goal.returns-clause-table
returns-clause-table c = grind (arith, common_steps)

pub returns-clause-count : goal.returns-clause-count
returns-clause-count c = grind (arith, common_steps)

pub returns-clause-state : goal.returns-clause-state
returns-clause-state c = grind (arith, common_steps)
