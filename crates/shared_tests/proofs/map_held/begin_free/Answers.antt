use Rattle.seg_words.specs.contracts.held_words.HeldWordsWordsIn.TheImpl.{ghosts}
use Rattle.shared_tests.proofs.WindowFacts.{free_begun}
use Rattle.shared_tests.proofs.map_held.begin_free.Goals as goal

pub returns-clause-rests : goal.returns-clause-rests
returns-clause-rests c =
    free_begun c.window_laws.ensures.closed ghosts c.args.core.now c.args.words.now c.hold.new.self c.begin.new.self c.args.at
    c.hold.ensures.words c.begin.ensures.words c.requires.held c.hold.ensures.held c.begin.ensures.held c.begin.ensures.aside c.requires.stand
