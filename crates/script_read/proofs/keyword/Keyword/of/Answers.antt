use Rattle.script_read.specs.Table.{form_in}
use Rattle.script_read.proofs.keyword.Keyword.of.Goals as goal

pub returns : goal.returns
unfolding form_in
returns c = c.word_in.ensures
