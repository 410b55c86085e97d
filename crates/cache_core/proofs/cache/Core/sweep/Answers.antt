use Rattle.std.proofs.Common.{refl, sym, ap}
use Rattle.std.proofs.lemmas.Bool.{false≢true}
use Rattle.seg_words.specs.Windows.{held_blocks}
use Rattle.seg_words.specs.Probing.{goes_nowhere}
use Rattle.apcu_model.specs.Change.{swept}
use Rattle.entry_slots.specs.Entries.{Entries}
use Rattle.cache_core.specs.declared.cache.Core.{Core}
use Rattle.cache_core.specs.CoreCache.{cache_of, CacheStands}
use Rattle.cache_core.proofs.CoreCacheLemmas.{cache_made, whole_made, swept_later, sweeps_keep, sweeps_held}
use Rattle.cache_core.proofs.cache.Core.sweep.Goals as goal

pub sweep_removed-requires : goal.sweep_removed-requires
sweep_removed-requires g c = record {
  ready = record { stand = c.requires.ready.stand.stand; unrefused = c.requires.ready.unrefused refl };
}

pub returns : goal.returns
returns g c =
    let core = c.args.self.now in
    let old = cache_of core in
    let new : Core = record core { slots = c.sweep_removed.new.slots } in
    let after = g.S.WordsIn.aside c.sweep_removed.new.seg in
    let sweeps = c.sweep_removed.ensures.sweeps in
    let whole = c.requires.ready.stand.whole in
    let now = swept (held_blocks after) old in
    let e = swept_later old sweeps whole after (goes_nowhere after after refl) in
    let stands : CacheStands g.S.WordsIn new c.sweep_removed.new.seg = record { stand = c.sweep_removed.ensures.stand; whole = whole_made new now e (cache_made new now e refl (record { hits = refl; misses = refl; inserts = refl; expunges = refl })) } in
    record {
      conf = refl;
      alike = record { conf = ap (λ (x : Entries). x.conf) sweeps.swept; rows = ap (λ (x : Entries). x.rows) sweeps.swept };
      swept = λ later on. cache_made new (swept (held_blocks later) old) (swept_later old sweeps whole later on) refl (record { hits = refl; misses = refl; inserts = refl; expunges = refl });
      step = record { goes = sweeps.goes; keeps = sweeps_keep sweeps; refused = λ was. sweeps.refused; stand = stands; rest = c.sweep_removed.ensures.rest };
      next = record { stand = stands; unrefused = λ was. absurd (false≢true (sym was)); held = λ was. sweeps_held sweeps; refused = sweeps.refused };
    }
