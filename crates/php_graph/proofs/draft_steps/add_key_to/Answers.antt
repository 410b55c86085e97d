use Rattle.std.proofs.Common.{arith}
use Rattle.std.proofs.lemmas.Grind.{common_steps}
use Rattle.php_graph.proofs.draft_steps.add_key_to.Goals as goal

pub returns-then-not-is_array_key-clause-answer : goal.returns-then-not-is_array_key-clause-answer
returns-then-not-is_array_key-clause-answer c = grind (arith, common_steps)

pub returns-clause-answer : goal.returns-clause-answer
returns-clause-answer c = grind (arith, common_steps)
