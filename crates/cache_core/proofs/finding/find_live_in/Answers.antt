use Rattle.std.proofs.Common.{◌≡◌, ◌∙◌, true, false, refl, sym}
use Rattle.std.proofs.lemmas.Bool.{or_left}
use Rattle.std.proofs.lemmas.List.Elements.{Contains-append_left}
use Rattle.std.proofs.lemmas.List.Folds.{list_any-append}
use Rattle.apcu_model.specs.Expiry.{is_hard_expired}
use Rattle.entry_slots.specs.Lists.{is_at, has_place}
use Rattle.entry_slots.specs.Standing.{entries}
use Rattle.cache_core.proofs.Finders.{finds_of, slot_is}
use Rattle.cache_core.proofs.ReadOnlyCalls.{stand_kept}
use Rattle.cache_core.proofs.ReplacedRows.{old_is, none_is}
use Rattle.cache_core.proofs.LiveRows.{not_live, found_old, over_old}
use Rattle.cache_core.proofs.finding.find_live_in.Goals as goal

pub find-requires : goal.find-requires
find-requires g c =
    let core = c.requires.finds.0 in
    let f = c.requires.finds.1 in
    record { short = c.requires.short; finds = (core.slots, finds_of f, slot_is f) }

pub returns-in_default-clause-none : goal.returns-in_default-clause-none
returns-in_default-clause-none g c = λ core f.
    let s = entries core.slots in
    not_live c.args.key.now c.args.t s.rows (none_is s c.args.key.now (sym c.in_default.is ∙ c.find.ensures.row core.slots (finds_of f) (slot_is f)))

pub hard_expired_at-requires : goal.hard_expired_at-requires
hard_expired_at-requires g c =
    let core = c.requires.finds.0 in
    let f = c.requires.finds.1 in
    let s = entries core.slots in
    let sound = c.standing_laws.ensures.sound core.slots (g.S.WordsIn.words c.args.seg.now) (g.S.WordsIn.aside c.args.seg.now) s f.stand.stand in
    record {
      there = (
        core.slots,
        record {
          stand = stand_kept core.slots c.find.ensures.kept f.stand.stand;
          there = list_any-append (is_at c.in-Some.at) s.rows s.removed
              ∙ or_left (has_place c.in-Some.at s.rows) (has_place c.in-Some.at s.removed) (old_is c.args.key.now c.in-Some.at sound (sym c.in-Some.is ∙ c.find.ensures.row core.slots (finds_of f) (slot_is f))).listed;
        },
      );
    }

pub returns-then-hard_expired_at-clause-none : goal.returns-then-hard_expired_at-clause-none
returns-then-hard_expired_at-clause-none g c = λ core f.
    let s = entries core.slots in
    let sound = c.standing_laws.ensures.sound core.slots (g.S.WordsIn.words c.args.seg.now) (g.S.WordsIn.aside c.args.seg.now) s f.stand.stand in
    let o = old_is c.args.key.now c.in-Some.at sound (sym c.in-Some.is ∙ c.find.ensures.row core.slots (finds_of f) (slot_is f)) in
    let over : is_hard_expired c.args.t o.row ≡ true = sym (c.hard_expired_at.ensures.over core.slots o.row
    (record {
      stand = stand_kept core.slots c.find.ensures.kept f.stand.stand;
      there = list_any-append (is_at c.in-Some.at) s.rows s.removed ∙ or_left (has_place c.in-Some.at s.rows) (has_place c.in-Some.at s.removed) o.listed;
    })
    (record { there = Contains-append_left s.rows s.removed o.row o.there; place = o.place })) ∙ c.if-hard_expired_at.true in
    over_old c.args.t o sound over

pub returns-clause-found : goal.returns-clause-found
returns-clause-found g c = λ core f.
    let s = entries core.slots in
    let sound = c.standing_laws.ensures.sound core.slots (g.S.WordsIn.words c.args.seg.now) (g.S.WordsIn.aside c.args.seg.now) s f.stand.stand in
    let o = old_is c.args.key.now c.in-Some.at sound (sym c.in-Some.is ∙ c.find.ensures.row core.slots (finds_of f) (slot_is f)) in
    let over : is_hard_expired c.args.t o.row ≡ false = sym (c.hard_expired_at.ensures.over core.slots o.row
    (record {
      stand = stand_kept core.slots c.find.ensures.kept f.stand.stand;
      there = list_any-append (is_at c.in-Some.at) s.rows s.removed ∙ or_left (has_place c.in-Some.at s.rows) (has_place c.in-Some.at s.removed) o.listed;
    })
    (record { there = Contains-append_left s.rows s.removed o.row o.there; place = o.place })) ∙ c.if-hard_expired_at.false in
    found_old o refl sound over
