use Rattle.std.proofs.lemmas.Grind.{common_steps}
use Rattle.std.proofs.Common.{arith, ◌≡◌, true, false, refl, sym, ap, ◌∙◌}
use Rattle.std.proofs.lemmas.Bool.{or_left, false≢true}
use Rattle.std.proofs.lemmas.List.Elements.{Contains-append_left}
use Rattle.apcu_model.specs.Expiry.{is_hard_expired}
use Rattle.apcu_model.specs.SlotOrder.{slot_of}
use Rattle.entry_slots.specs.Entries.{Entries}
use Rattle.entry_slots.specs.Lists.{is_at, has_place}
use Rattle.entry_slots.specs.Standing.{entries}
use Rattle.std.proofs.lemmas.List.Folds.{list_any-append}
use Rattle.cache_core.proofs.ReadOnlyCalls.{stand_kept}
use Rattle.cache_core.proofs.ReplacedRows.{old_is, spot_some, spot_none}
use Rattle.cache_core.proofs.LiveRows.{not_live, found_old, over_old}
use Rattle.cache_core.proofs.cache.Core.seek_row.Goals as goal

pub seek-spot-requires-clause-slot : goal.seek-spot-requires-clause-slot
seek-spot-requires-clause-slot g c = c.requires.slot ∙ ap (λ (x : Entries). slot_of x.conf c.args.key.now) (sym c.requires.stand.whole)

pub seek-spot-requires-clause-limit : goal.seek-spot-requires-clause-limit
seek-spot-requires-clause-limit g c = ap (λ (x : Entries). x.conf.ttl) (sym c.requires.stand.whole)

pub returns-then-spot-eq0-clause-none : goal.returns-then-spot-eq0-clause-none
returns-then-spot-eq0-clause-none g c =
    let s = entries c.args.self.now.slots in
    let sound = c.standing_laws.ensures.sound c.args.self.now.slots (g.S.WordsIn.words c.args.seg.now) (g.S.WordsIn.aside c.args.seg.now) s c.requires.stand.stand in
    λ is. not_live c.args.key.now c.args.t s.rows (spot_none c.args.key.now c.seek-spot.result.at sound c.seek-spot.ensures.spot.old_is c.if-spot-eq0.true)

pub is_hard_expired-requires-clause-stand : goal.is_hard_expired-requires-clause-stand
is_hard_expired-requires-clause-stand g c = stand_kept c.args.self.now.slots c.seek-spot.ensures.kept c.requires.stand.stand

pub is_hard_expired-requires-clause-there : goal.is_hard_expired-requires-clause-there
is_hard_expired-requires-clause-there g c =
    let s = entries c.args.self.now.slots in
    let sound = c.standing_laws.ensures.sound c.args.self.now.slots (g.S.WordsIn.words c.args.seg.now) (g.S.WordsIn.aside c.args.seg.now) s c.requires.stand.stand in
    let at = c.seek-spot.result.at in
    list_any-append (is_at at) s.rows s.removed
    ∙ or_left (has_place at s.rows) (has_place at s.removed) (old_is c.args.key.now at sound (spot_some s c.args.key.now at c.seek-spot.ensures.spot.old_is c.if-spot-eq0.false)).listed

pub returns-then-is_hard_expired-clause-none : goal.returns-then-is_hard_expired-clause-none
returns-then-is_hard_expired-clause-none g c = λ is.
    let s = entries c.args.self.now.slots in
    let sound = c.standing_laws.ensures.sound c.args.self.now.slots (g.S.WordsIn.words c.args.seg.now) (g.S.WordsIn.aside c.args.seg.now) s c.requires.stand.stand in
    let at = c.seek-spot.result.at in
    let o = old_is c.args.key.now at sound (spot_some s c.args.key.now at c.seek-spot.ensures.spot.old_is c.if-spot-eq0.false) in
    let over : is_hard_expired c.args.t o.row ≡ true = sym (c.is_hard_expired.ensures.over o.row (record { there = Contains-append_left s.rows s.removed o.row o.there; place = o.place })) ∙ c.if-is_hard_expired.true in
    over_old c.args.t o sound over

pub returns-clause-found : goal.returns-clause-found
returns-clause-found g c = λ is.
    let s = entries c.args.self.now.slots in
    let sound = c.standing_laws.ensures.sound c.args.self.now.slots (g.S.WordsIn.words c.args.seg.now) (g.S.WordsIn.aside c.args.seg.now) s c.requires.stand.stand in
    let at = c.seek-spot.result.at in
    let o = old_is c.args.key.now at sound (spot_some s c.args.key.now at c.seek-spot.ensures.spot.old_is c.if-spot-eq0.false) in
    let over : is_hard_expired c.args.t o.row ≡ false = sym (c.is_hard_expired.ensures.over o.row (record { there = Contains-append_left s.rows s.removed o.row o.there; place = o.place })) ∙ c.if-is_hard_expired.false in
    found_old o refl sound over

pub returns-clause-none : goal.returns-clause-none
returns-clause-none g c = λ is. absurd (false≢true (sym is))

pub returns-then-spot-eq0-clause-found : goal.returns-then-spot-eq0-clause-found
returns-then-spot-eq0-clause-found g c = λ is. absurd (false≢true is)

pub returns-then-is_hard_expired-clause-found : goal.returns-then-is_hard_expired-clause-found
returns-then-is_hard_expired-clause-found g c = λ is. absurd (false≢true is)

pub standing_laws-requires : goal.standing_laws-requires
standing_laws-requires g c = grind (arith, common_steps)

pub seek-spot-requires-clause-short : goal.seek-spot-requires-clause-short
seek-spot-requires-clause-short g c = grind (arith, common_steps)

pub seek-spot-requires-clause-stand : goal.seek-spot-requires-clause-stand
seek-spot-requires-clause-stand g c = grind (arith, common_steps)

pub returns-then-spot-eq0-clause-spot : goal.returns-then-spot-eq0-clause-spot
returns-then-spot-eq0-clause-spot g c = grind (arith, common_steps)

pub returns-then-spot-eq0-clause-kept : goal.returns-then-spot-eq0-clause-kept
returns-then-spot-eq0-clause-kept g c = grind (arith, common_steps)

pub returns-then-is_hard_expired-clause-spot : goal.returns-then-is_hard_expired-clause-spot
returns-then-is_hard_expired-clause-spot g c = grind (arith, common_steps)

pub returns-then-is_hard_expired-clause-kept : goal.returns-then-is_hard_expired-clause-kept
returns-then-is_hard_expired-clause-kept g c = grind (arith, common_steps)

pub returns-clause-spot : goal.returns-clause-spot
returns-clause-spot g c = grind (arith, common_steps)

pub returns-clause-kept : goal.returns-clause-kept
returns-clause-kept g c = grind (arith, common_steps)
