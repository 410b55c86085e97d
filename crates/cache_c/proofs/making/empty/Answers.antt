use Rattle.std.proofs.Common.{sym, subst}
use Rattle.late_words.specs.contracts.late_words.LateWordsWordsIn.TheImpl as late
use Rattle.late_words.specs.declared.late_words.LateWords.{LateWords}
use Rattle.cache_core.specs.CoreCache.{CacheStands}
use Rattle.cache_c.proofs.Standing.{stands_empty}
use Rattle.cache_c.proofs.making.empty.Goals as goal

pub returns : goal.returns
returns c =
    let there = subst (λ (w : LateWords). CacheStands late.ghosts c.format-core.result w) (sym c.of-words.ensures.late) c.format-core.ensures.stand in
    record {
      stand = stands_empty (record { core = c.format-core.result; words = c.of-words.result; alloc = c.args.alloc }) there c.of-words.ensures.seats;
      empty = c.format-core.ensures.made;
      seats = c.of-words.ensures.seats;
    }
