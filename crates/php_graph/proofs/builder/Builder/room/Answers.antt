use Rattle.std.proofs.Common.{arith}
use Rattle.std.proofs.lemmas.Grind.{common_steps}
use Rattle.php_graph.proofs.builder.Builder.room.Goals as goal

pub returns-then-self-ge-MOST_VALUES : goal.returns-then-self-ge-MOST_VALUES
returns-then-self-ge-MOST_VALUES c = grind (arith, common_steps)

pub returns : goal.returns
returns c = grind (arith, common_steps)
