use Rattle.std.proofs.Common.{refl, ap, ◌∙◌, w64}
use Rattle.std.proofs.lemmas.Int.{to_z-of_z}
use Rattle.apcu_model.specs.Counters.{integer_set}
use Rattle.entry_slots.specs.Standing.{entries}
use Rattle.cache_core.specs.declared.cache.Core.{Core}
use Rattle.cache_core.specs.CoreCache.{cache_of}
use Rattle.entry_slots.specs.Entries.{Entries}
use Rattle.cache_core.proofs.Events.{quiet, numbered_open}
use Rattle.cache_core.proofs.LiveRows.{old_live}
use Rattle.cache_core.proofs.KeyRows.{core_numbered, numbered_keyed}
use Rattle.cache_core.proofs.cache.Core.set_int.Goals as goal

pub returns-clause-cache : goal.returns-clause-cache
returns-clause-cache g c = λ key seen row live place.
    let core = c.args.self.now in
    let new : Core = record core { slots = c.set_int.new.self } in
    let sound = c.standing_laws.ensures.sound core.slots (g.S.WordsIn.words c.args.seg.now) (g.S.WordsIn.aside c.args.seg.now) (entries core.slots) c.requires.stand.stand in
    (core_numbered core new c.args.at _ c.args.t c.requires.stand.whole c.set_int.ensures.set refl refl).0
    ∙ (numbered_keyed core key c.args.at _ c.args.t (old_live key seen c.args.at row sound live place) sound
    ∙ ap (λ z. integer_set key z c.args.t (cache_of core)) (to_z-of_z w64 c.args.n c.ranges.n))

pub returns-clause-step : goal.returns-clause-step
returns-clause-step g c =
    let core = c.args.self.now in
    let new : Core = record core { slots = c.set_int.new.self } in
    let set = c.set_int.ensures.set in
    quiet c.set_int.ensures.beside (numbered_open (g.S.WordsIn.aside c.set_int.new.seg).windows (entries core.slots) (entries new.slots) c.args.at _ c.args.t set) (ap (λ (x : Entries). x.removed) set)
    (record { stand = c.set_int.ensures.stand; whole = (core_numbered core new c.args.at _ c.args.t c.requires.stand.whole set refl refl).1 })
