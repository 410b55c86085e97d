use Rattle.std.proofs.Common.{arith}
use Rattle.std.proofs.lemmas.Grind.{common_steps}
use Rattle.pin_table.proofs.writer.Writer.give_pass.Goals as goal

pub give_as-requires-clause-left : goal.give_as-requires-clause-left
give_as-requires-clause-left c = grind (arith, common_steps)
