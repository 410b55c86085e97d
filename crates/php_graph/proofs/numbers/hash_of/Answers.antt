use Rattle.std.proofs.Common.{arith}
use Rattle.std.proofs.lemmas.Grind.{common_steps}
use Rattle.php_graph.specs.Numbers.{hash_of}
use Rattle.php_graph.proofs.numbers.hash_of.Goals as goal

pub returns : goal.returns
unfolding hash_of
returns c = grind (arith, common_steps)
