use Rattle.std.proofs.Common.{arith}
use Rattle.std.proofs.lemmas.Grind.{common_steps}
use Rattle.php_graph.proofs.builder.Builder.push_object.Goals as goal

pub returns-in_err-room-clause-answer : goal.returns-in_err-room-clause-answer
returns-in_err-room-clause-answer c = grind (arith, common_steps)

pub returns-then-not-is_class-clause-answer : goal.returns-then-not-is_class-clause-answer
returns-then-not-is_class-clause-answer c = grind (arith, common_steps)

pub returns-in_err-props-clause-answer : goal.returns-in_err-props-clause-answer
returns-in_err-props-clause-answer c = grind (arith, common_steps)

pub add_value-requires-clause-new_value : goal.add_value-requires-clause-new_value
add_value-requires-clause-new_value c = grind (arith, common_steps)

pub add_value-requires-clause-room : goal.add_value-requires-clause-room
add_value-requires-clause-room c = grind (arith, common_steps)

pub returns-in_err-add_value-clause-answer : goal.returns-in_err-add_value-clause-answer
returns-in_err-add_value-clause-answer c = grind (arith, common_steps)

pub returns-clause-answer : goal.returns-clause-answer
returns-clause-answer c = grind (arith, common_steps)

pub returns-clause-ok : goal.returns-clause-ok
returns-clause-ok c = grind (arith, common_steps)
