use Rattle.std.proofs.Common.{◌∙◌, ap}
use Rattle.apcu_model.specs.Cache.{counts_of}
use Rattle.shared_cache.proofs.FinalWords.{left_standing}
use Rattle.shared_cache.proofs.locked_cache.LockedCache.close_all.Goals as goal

pub returns : goal.returns
returns g c =
    let laws = c.lower_laws.ensures in
    let all = c.self.invariant in
    let left = c.close-words.ensures in
    record {
      is_closed = record {
        history = c.self.inside.seat.state.log.history;
        journal = all.journal_is;
        legal = all.legal;
        counts = c.counts-counts.ensures ∙ ap counts_of all.cache;
        seen = left.seen;
        own = left.own;
        others = left.others;
      };
      cache = all.cache;
      stand = left_standing laws g.N.TableName.table g.N.TableName.conf g.N.TableName.budgets c.self.inside.seat c.self.inside.core c.self.inside.journal c.close-words.result.items.items all left.words;
    }
