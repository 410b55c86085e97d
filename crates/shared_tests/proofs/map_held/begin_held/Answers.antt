use Rattle.seg_words.specs.contracts.held_words.HeldWordsWordsIn.TheImpl.{ghosts}
use Rattle.shared_tests.proofs.WindowFacts.{held_begun}
use Rattle.shared_tests.proofs.map_held.begin_held.Goals as goal

pub returns-clause-stand : goal.returns-clause-stand
returns-clause-stand c =
    held_begun c.window_laws.ensures.opened ghosts c.args.core.now c.args.words.now c.hold.new.self c.begin.new.self c.args.at
    c.hold.ensures.words c.begin.ensures.words c.requires.rests.held c.hold.ensures.held c.begin.ensures.aside c.requires.there c.requires.rests.stand
