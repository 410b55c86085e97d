use Rattle.std.proofs.Common.{◌≡◌, ◌∙◌, ◌++◌, true, ap, sym, subst}
use Rattle.std.proofs.lemmas.List.Elements.{Contains-append_left}
use Rattle.entry_slots.specs.declared.slots.EntrySlots.{EntrySlots}
use Rattle.entry_slots.specs.Lists.{has_place}
use Rattle.entry_slots.specs.Entries.{IsListed, listed}
use Rattle.entry_slots.specs.Standing.{entries}
use Rattle.cache_core.specs.CoreCache.{cache_of}
use Rattle.mark_play.specs.Windows.{window_on}
use Rattle.mark_play.proofs.FoundRows.{FoundRow, found_row, place_there}
use Rattle.mark_play.proofs.answering.fetch.Goals as goal

pub window_at-requires-clause-there : goal.window_at-requires-clause-there
window_at-requires-clause-there g c =
    let k = cache_of c.args.core.now in
    let f : FoundRow c.args.key.now c.args.t k c.in-Some.at c.in-Some.value = found_row c.args.key.now c.args.t k c.in-Some.at c.in-Some.value (cc (c.in-Some.is, c.in_ok-at.ensures.found)) in
    let there : has_place c.in-Some.at (k.rows ++ k.removed) ≡ true = place_there (k.rows ++ k.removed) f.row c.in-Some.at (Contains-append_left k.rows k.removed f.row f.there) f.place in
    subst (λ (e : EntrySlots). has_place c.in-Some.at (listed (entries e)) ≡ true) (sym c.slots.ensures.value) there

pub count_hit-requires-clause-there : goal.count_hit-requires-clause-there
count_hit-requires-clause-there g c =
    let k = cache_of c.args.core.now in
    let f : FoundRow c.args.key.now c.args.t k c.in-Some.at c.in-Some.value = found_row c.args.key.now c.args.t k c.in-Some.at c.in-Some.value (cc (c.in-Some.is, c.in_ok-at.ensures.found)) in
    subst (λ (e : EntrySlots). has_place c.in-Some.at (entries e).rows ≡ true) (sym c.slots.ensures.value) (place_there k.rows f.row c.in-Some.at f.there f.place)

pub returns-clause-window : goal.returns-clause-window
returns-clause-window g c =
    let k = cache_of c.args.core.now in
    let f : FoundRow c.args.key.now c.args.t k c.in-Some.at c.in-Some.value = found_row c.args.key.now c.args.t k c.in-Some.at c.in-Some.value (cc (c.in-Some.is, c.in_ok-at.ensures.found)) in
    let at : IsListed (entries c.args.core.now.slots) c.in-Some.at f.row = record { there = Contains-append_left k.rows k.removed f.row f.there; place = f.place } in
    let here = subst (λ (e : EntrySlots). IsListed (entries e) c.in-Some.at f.row) (sym c.slots.ensures.value) at in
    c.in_ok-window.ensures.window f.row here f.graph ∙ ap (window_on c.args.key.now) (sym f.live)
