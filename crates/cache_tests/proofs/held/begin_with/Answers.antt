use Rattle.seg_words.specs.contracts.held_words.HeldWordsWordsIn.TheImpl.{ghosts}
use Rattle.cache_tests.proofs.TwoHeldBlocks.{two_begun}
use Rattle.cache_tests.proofs.held.begin_with.Goals as goal

pub returns-clause-two : goal.returns-clause-two
returns-clause-two c =
    two_begun c.window_laws.ensures.closed c.window_laws.ensures.opened ghosts c.args.core.now c.args.words.now c.hold.new.self c.hold-2.new.self c.begin.new.self
    c.args.mask c.args.first c.args.second
    c.hold.ensures.words c.hold-2.ensures.words c.begin.ensures.words
    c.hold.ensures.held c.hold-2.ensures.held c.begin.ensures.held c.begin.ensures.aside
    c.requires.first c.requires.second c.requires.two
