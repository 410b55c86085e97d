use Rattle.std.proofs.Common.{refl, ap}
use Rattle.late_words.specs.contracts.late_words.LateWordsWordsIn.TheImpl as late
use Rattle.cache_c.proofs.Standing.{stands_seated}
use Rattle.cache_c.proofs.cache.Cache.sit.Goals as goal

pub returns-clause-stand : goal.returns-clause-stand
returns-clause-stand c = stands_seated c.requires.stand refl c.hold.ensures.late c.args.seat c.args.at c.hold.ensures.seats (λ _. c.requires.block.there) (λ _. c.requires.block.text c.requires.text)

pub returns-clause-memory : goal.returns-clause-memory
returns-clause-memory c = ap (λ w. late.ghosts.rest w) c.hold.ensures.late

pub returns-clause-words : goal.returns-clause-words
returns-clause-words c = ap (λ w. late.ghosts.words w) c.hold.ensures.late
