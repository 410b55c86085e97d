use Rattle.std.proofs.Common.{◌≡◌, ℕ, true, Some, sym, ap, ◌∙◌, subst, arith}
use Rattle.apcu_model.specs.Cache.{Cache}
use Rattle.apcu_model.specs.Expiry.{live_row}
use Rattle.apcu_model.specs.Sequential.{looked_up}
use Rattle.entry_slots.specs.declared.slots.EntrySlots.{EntrySlots}
use Rattle.entry_slots.specs.RowPlaces.{place_there}
use Rattle.entry_slots.specs.Lists.{has_place}
use Rattle.entry_slots.specs.Standing.{entries}
use Rattle.cache_core.specs.CoreCache.{cache_of}
use Rattle.cache_core.specs.Counting.{with_misses}
use Rattle.counter_entry.proofs.IntegerLookUps.{live_there}
use Rattle.counter_entry.proofs.Levels.{placed_is, none_placed, row_is, none_is}
use Rattle.counter_entry.proofs.generating.count_lookups.Goals as goal

pub count_hit-requires-clause-there : goal.count_hit-requires-clause-there
count_hit-requires-clause-there g c =
    let old = cache_of c.args.core.now in
    let p = placed_is c.requires.there.0 c.args.t old c.in-Some.at (sym c.in-Some.is ∙ c.requires.there.1) in
    let u = row_is c.requires.there.0 c.args.t old p.row p.first in
    let there : has_place c.in-Some.at old.rows ≡ true = subst (λ n. has_place n old.rows ≡ true) p.place (place_there old.rows p.row (live_there u.key c.args.t old p.row u.live)) in
    subst (λ (s : EntrySlots). has_place c.in-Some.at (entries s).rows ≡ true) (sym c.count_misses.ensures.slots) there

pub returns-in-Some-clause-cache : goal.returns-in-Some-clause-cache
returns-in-Some-clause-cache g c = λ levels at_is missing_is.
    let old = cache_of c.args.core.now in
    let p = placed_is levels c.args.t old c.in-Some.at (sym c.in-Some.is ∙ at_is) in
    let u = row_is levels c.args.t old p.row p.first in
    let live : live_row u.key c.args.t (cache_of c.count_misses.new.self) ≡ Some p.row = ap (λ (x : Cache). live_row u.key c.args.t x) (c.count_misses.ensures.cache ∙ ap (λ (n : ℕ). with_misses n old) c.from.ensures) ∙ u.live in
    c.count_hit.ensures.cache u.key c.args.t p.row live p.place
    ∙ (ap (λ (x : Cache). looked_up u.key c.args.t (Some p.row) x) (c.count_misses.ensures.cache ∙ ap (λ (n : ℕ). with_misses n old) c.from.ensures) ∙ sym (u.looked 0 c.args.missing (omega (arith, missing_is))))

pub returns-in_default-clause-cache : goal.returns-in_default-clause-cache
returns-in_default-clause-cache g c = λ levels at_is missing_is.
    let old = cache_of c.args.core.now in
    c.count_misses.ensures.cache ∙ ap (λ (n : ℕ). with_misses n old) c.from.ensures ∙ sym (none_is levels c.args.t old (none_placed levels c.args.t old (sym c.in_default.is ∙ at_is)) 0 c.args.missing (omega (arith, missing_is)))
