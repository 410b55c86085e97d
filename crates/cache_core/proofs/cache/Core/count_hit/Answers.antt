use Rattle.std.proofs.Common.{refl, ap, ◌∙◌}
use Rattle.entry_slots.specs.Standing.{entries}
use Rattle.cache_core.specs.declared.cache.Core.{Core}
use Rattle.entry_slots.specs.Entries.{Entries}
use Rattle.cache_core.proofs.Events.{quiet, touched_open}
use Rattle.cache_core.proofs.LiveRows.{old_live}
use Rattle.cache_core.proofs.KeyRows.{core_used, used_keyed}
use Rattle.cache_core.proofs.cache.Core.count_hit.Goals as goal

pub returns-clause-cache : goal.returns-clause-cache
returns-clause-cache g c = λ key seen row live place.
    let core = c.args.self.now in
    let new : Core = record core { slots = c.touch.new.self; cache_counts = c.after_hit-self.result } in
    let sound = c.standing_laws.ensures.sound core.slots (g.S.WordsIn.words c.args.seg.now) (g.S.WordsIn.aside c.args.seg.now) (entries core.slots) c.requires.stand.stand in
    (core_used core new c.args.at c.args.t c.requires.stand.whole c.touch.ensures.touched refl c.after_hit-self.ensures).0
    ∙ used_keyed core key c.args.at c.args.t row (old_live key seen c.args.at row sound live place) sound

pub returns-clause-step : goal.returns-clause-step
returns-clause-step g c =
    let core = c.args.self.now in
    let new : Core = record core { slots = c.touch.new.self; cache_counts = c.after_hit-self.result } in
    let touched = c.touch.ensures.touched in
    quiet c.touch.ensures.beside (touched_open (g.S.WordsIn.aside c.touch.new.seg).windows (entries core.slots) (entries new.slots) c.args.at c.args.t touched) (ap (λ (x : Entries). x.removed) touched)
    (record { stand = c.touch.ensures.stand; whole = (core_used core new c.args.at c.args.t c.requires.stand.whole touched refl c.after_hit-self.ensures).1 })

pub returns-clause-used : goal.returns-clause-used
returns-clause-used g c =
    let core = c.args.self.now in
    let new : Core = record core { slots = c.touch.new.self; cache_counts = c.after_hit-self.result } in
    (core_used core new c.args.at c.args.t c.requires.stand.whole c.touch.ensures.touched refl c.after_hit-self.ensures).0
