use Rattle.std.proofs.Common.{arith}
use Rattle.std.proofs.lemmas.Grind.{common_steps}
use Rattle.value_image.proofs.write_members.put_one.Goals as goal

pub store-requires-clause-apart : goal.store-requires-clause-apart
store-requires-clause-apart g c = c.requires.apart c.args.at (omega arith) (omega arith)

pub returns-clause-words : goal.returns-clause-words
returns-clause-words g c = grind (arith, common_steps)
