use Rattle.std.proofs.Common.{◌≡◌, ◌∙◌, ap, sym, subst, true, Some}
use Rattle.std.specs.Prelude.{option_map}
use Rattle.apcu_model.specs.declared.row_info.RowInfo.{RowInfo}
use Rattle.apcu_model.specs.Cache.{Row}
use Rattle.apcu_model.specs.Infos.{info_of_key, info_of_row}
use Rattle.entry_slots.specs.declared.slots.EntrySlots.{EntrySlots}
use Rattle.entry_slots.specs.Lists.{has_place}
use Rattle.entry_slots.specs.Entries.{IsListed, listed}
use Rattle.entry_slots.specs.Standing.{entries}
use Rattle.cache_core.specs.CoreCache.{cache_of}
use Rattle.cache_info.proofs.InfoAnswers.{live_at, live_listed}
use Rattle.cache_info.proofs.key.key_info.Goals as goal

pub info_at-row-requires-clause-there : goal.info_at-row-requires-clause-there
info_at-row-requires-clause-there g c =
    let core = c.args.core.now in
    let here = live_at c.args.key.now c.args.t (cache_of core) (c.in-Some.at, c.in-Some._value) (sym c.in-Some.is ∙ c.peek.ensures.found) in
    subst (λ (e : EntrySlots). has_place c.in-Some.at (listed (entries e)) ≡ true) (sym c.slots.ensures.value)
    (live_listed (entries core.slots) here.row c.in-Some.at here.there here.place)

pub returns-clause-info : goal.returns-clause-info
returns-clause-info g c =
    let core = c.args.core.now in
    let here = live_at c.args.key.now c.args.t (cache_of core) (c.in-Some.at, c.in-Some._value) (sym c.in-Some.is ∙ c.peek.ensures.found) in
    let member = subst (λ (e : EntrySlots). IsListed (entries e) c.in-Some.at here.row) (sym c.slots.ensures.value) (record { there = here.there; place = here.place }) in
    ap Some (c.in_ok-tell_key.ensures ∙ ap (λ (n : RowInfo). info_of_key n 1) (c.info_at-row.ensures.info here.row member))
    ∙ sym (ap (option_map (λ (row : Row). info_of_key (info_of_row row) 1)) here.live)
