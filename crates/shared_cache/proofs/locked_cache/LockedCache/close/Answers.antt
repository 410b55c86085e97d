use Rattle.std.proofs.Common.{◌∙◌, ap}
use Rattle.apcu_model.specs.Cache.{counts_of}
use Rattle.shared_cache.proofs.locked_cache.LockedCache.close.Goals as goal

pub returns : goal.returns
returns g c =
    let all = c.self.invariant in
    let ended = c.end.ensures in
    record {
      history = c.self.inside.seat.state.log.history;
      journal = all.journal_is;
      legal = all.legal;
      counts = c.counts-counts.ensures ∙ ap counts_of all.cache;
      seen = ended.seen;
      own = ended.own;
      others = ended.others;
    }
