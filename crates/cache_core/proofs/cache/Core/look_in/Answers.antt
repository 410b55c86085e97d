use Rattle.std.proofs.Common.{◌≡◌, true, refl, sym, ap, ◌∙◌, subst}
use Rattle.apcu_model.specs.Sequential.{looked_up}
use Rattle.entry_slots.specs.Lists.{has_place}
use Rattle.entry_slots.specs.Standing.{entries}
use Rattle.cache_core.specs.declared.cache.Core.{Core}
use Rattle.cache_core.specs.declared.cache_counts.CacheCounts.{CacheCounts}
use Rattle.cache_core.specs.CoreCache.{cache_of, CacheStands}
use Rattle.cache_core.specs.Looking.{look_at, look_of, scalar_of}
use Rattle.cache_core.proofs.ReadOnlyCalls.{stand_kept}
use Rattle.entry_slots.specs.RowPlaces.{place_there}
use Rattle.entry_slots.specs.Entries.{Entries}
use Rattle.cache_core.proofs.Events.{quiet, same_open, beside_then, touched_open}
use Rattle.cache_core.proofs.LiveRows.{old_found}
use Rattle.cache_core.proofs.KeyRows.{core_touched}
use Rattle.cache_core.proofs.cache.Core.look_in.Goals as goal

pub returns-in_default-clause-look : goal.returns-in_default-clause-look
returns-in_default-clause-look g c = ap look_of (sym c.in_default.ensures.none)

pub returns-in_default-clause-does : goal.returns-in_default-clause-does
returns-in_default-clause-does g c =
    let core = c.args.self.now in
    let new : Core = record core { cache_counts = c.after_miss-self.result } in
    let kept = c.find_live.ensures.kept in
    let stands : CacheStands g.S.WordsIn new c.find_live.new.seg = record { stand = stand_kept core.slots kept c.requires.stand.stand; whole = c.requires.stand.whole } in
    record {
      reply = λ later on. refl;
      cache = λ later on. ap (λ (cache_counts : CacheCounts). let x : Core = record core { cache_counts = cache_counts } in cache_of x) c.after_miss-self.ensures ∙ ap (λ r. looked_up c.args.key.now c.args.t r (cache_of core)) (sym c.in_default.ensures.none);
      step = quiet (record { aside = kept.aside; rest = kept.rest }) (same_open (g.S.WordsIn.aside c.find_live.new.seg).windows (entries core.slots)) refl stands;
    }

pub scalar_at-scalar-requires-clause-stand : goal.scalar_at-scalar-requires-clause-stand
scalar_at-scalar-requires-clause-stand g c = record { stand = stand_kept c.args.self.now.slots c.find_live.ensures.kept c.requires.stand.stand; whole = c.requires.stand.whole }

pub scalar_at-scalar-requires-clause-there : goal.scalar_at-scalar-requires-clause-there
scalar_at-scalar-requires-clause-there g c = let f = c.in-Some.ensures.found in (f.row, f.is_row)

pub touch-requires-clause-stand : goal.touch-requires-clause-stand
touch-requires-clause-stand g c = stand_kept c.args.self.now.slots c.scalar_at-scalar.ensures.kept (stand_kept c.args.self.now.slots c.find_live.ensures.kept c.requires.stand.stand)

pub touch-requires-clause-there : goal.touch-requires-clause-there
touch-requires-clause-there g c =
    let f = c.in-Some.ensures.found in
    subst (λ n. has_place n (entries c.args.self.now.slots).rows ≡ true) f.is_row.place (place_there (entries c.args.self.now.slots).rows f.row f.is_row.there)

pub returns-clause-look : goal.returns-clause-look
returns-clause-look g c =
    let f = c.in-Some.ensures.found in
    c.answer.ensures
    ∙ (ap (look_at c.in-Some.at) (c.scalar_at-scalar.ensures.scalar f.row f.is_row)
    ∙ (ap (λ n. look_at n (scalar_of f.row.graph)) (sym f.is_row.place) ∙ ap look_of (sym f.live)))

pub returns-clause-beside : goal.returns-clause-beside
returns-clause-beside g c = beside_then c.find_live.ensures.kept (beside_then c.scalar_at-scalar.ensures.kept c.touch.ensures.beside)

pub returns-clause-does : goal.returns-clause-does
returns-clause-does g c =
    let core = c.args.self.now in
    let new : Core = record core { slots = c.touch.new.self; cache_counts = c.after_hit-self.result } in
    let f = c.in-Some.ensures.found in
    let touched = c.touch.ensures.touched in
    let sound = c.standing_laws.ensures.sound core.slots (g.S.WordsIn.words c.args.seg.now) (g.S.WordsIn.aside c.args.seg.now) (entries core.slots) c.requires.stand.stand in
    let made = core_touched core new c.args.key.now c.args.t c.in-Some.at f.row c.requires.stand.whole (old_found f refl sound) sound touched refl c.after_hit-self.ensures f.live in
    record {
      reply = λ later on. refl;
      cache = λ later on. made.0;
      step = quiet (returns-clause-beside g c) (touched_open (g.S.WordsIn.aside c.touch.new.seg).windows (entries core.slots) (entries new.slots) c.in-Some.at c.args.t touched) (ap (λ (x : Entries). x.removed) touched)
          (record { stand = c.touch.ensures.stand; whole = made.1 });
    }
