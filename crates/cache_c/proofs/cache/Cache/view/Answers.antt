use Rattle.cache_c.specs.Standing.{cache_words}
use Rattle.cache_c.specs.contracts.seat_words.SeatWordsWordsIn.TheImpl as held
use Rattle.cache_c.proofs.cache.Cache.view.Goals as goal

pub finder-finder-requires : goal.finder-finder-requires
finder-finder-requires c = record { stand = record { words = cache_words c.args.self.now; aside = held.ghosts.aside c.args.self.now.words; stand = c.requires.stand.copied } }
