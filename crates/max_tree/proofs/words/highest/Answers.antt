use Rattle.std.proofs.Common.{rules}
use Rattle.max_tree.proofs.BitLemmas.{highest_set, highest_last}
use Rattle.max_tree.proofs.words.highest.Goals as goal

pub returns-clause-set_is : goal.returns-clause-set_is
returns-clause-set_is c = highest_set c.args.word c.requires (search rules)

pub returns-clause-last : goal.returns-clause-last
returns-clause-last c = λ j past. highest_last c.args.word j c.requires (search rules) past
