use Rattle.std.proofs.Common.{◌∙◌}
use Rattle.seg_words.specs.Members.{any_has}
use Rattle.block_tests.proofs.listed.stands.Goals as goal

pub returns : goal.returns
returns c = c.contains.ensures.value ∙ any_has c.args.at c.args.places.now
