use Rattle.std.proofs.Common.{◌≡◌, ℕ, ◌+◌, ◌<◌, ◌≤◌, ◌%◌, List, sym, ap, ◌∙◌, subst, refl, arith, slice_index}
use Rattle.php_graph.specs.Numbers.{hash_of}
use Rattle.entry_slots.specs.Standing.{entries}
use Rattle.entry_slots.proofs.RowBlocks.{row_there, room, told_at, home_listed}
use Rattle.entry_slots.proofs.PresentRows.{HasEntryAt}
use Rattle.entry_slots.proofs.Chains.{small_after, slot_small}
use Rattle.entry_slots.proofs.KeySearch.{stands_along}
use Rattle.entry_slots.proofs.SpotSearch.{Path, chain_short, path_start, path_step, path_next, path_end, path_whole, step_listed, step_row, step_there, listed_there, spot_here, spot_last}
use Rattle.entry_slots.proofs.slots.EntrySlots.seek.Goals as goal

-- the slot of a key is one of the slots
low : (slot slots hash : ℕ) → slot ≡ hash % slots → 2 ≤ slots → slot < slots
low slot slots hash e two = omega (arith, e, slot_small hash slots two)

pub first_in-at-requires : goal.first_in-at-requires
first_in-at-requires g c =
    let s = entries c.args.self.now in
    record { stand = c.requires.stand; slot = low c.args.slot s.conf.slots (hash_of c.args.key.now) c.requires.slot c.requires.stand.usable.slots_least }

pub loop-passed-init : goal.loop-passed-init
loop-passed-init g c =
    let s = entries c.args.self.now in
    record {
      path = path_start s c.args.slot c.args.key.now c.args.t c.first_in-at.result c.requires.stand (low c.args.slot s.conf.slots (hash_of c.args.key.now) c.requires.slot c.requires.stand.usable.slots_least) c.first_in-at.ensures.first;
      kept = record { words = c.first_in-at.ensures.kept.words; aside = c.first_in-at.ensures.kept.aside; rest = c.first_in-at.ensures.kept.rest };
    }

pub key_is-requires : goal.key_is-requires
key_is-requires g c =
    let s = entries c.args.self.now in
    record {
      stand = stands_along (g.S.WordsIn.words c.loop-passed.seg) (g.S.WordsIn.aside c.loop-passed.seg) c.requires.stand c.loop-passed.invariant.kept.words c.loop-passed.invariant.kept.aside;
      there = let step = path_step c.loop-passed.invariant.path c.if-at-eq0.false in listed_there s c.loop-passed.at step.row (step_listed step);
      short = c.requires.short;
    }

pub is_row_expired-over-requires : goal.is_row_expired-over-requires
is_row_expired-over-requires g c =
    let s = entries c.args.self.now in
    record {
      stand = stands_along (g.S.WordsIn.words c.key_is.new.seg) (g.S.WordsIn.aside c.key_is.new.seg) c.requires.stand (c.key_is.ensures.kept.words ∙ c.loop-passed.invariant.kept.words) (c.key_is.ensures.kept.aside ∙ c.loop-passed.invariant.kept.aside);
      there = let step = path_step c.loop-passed.invariant.path c.if-at-eq0.false in step_there step;
      limit = c.requires.limit;
    }

pub next_of-at-requires : goal.next_of-at-requires
next_of-at-requires g c =
    let s = entries c.args.self.now in
    let step = path_step c.loop-passed.invariant.path c.if-at-eq0.false in
    let entry : HasEntryAt c.args.self.now (g.S.WordsIn.words c.is_row_expired-over.new.seg) (g.S.WordsIn.aside c.is_row_expired-over.new.seg) c.loop-passed.at = record {
      entries = s;
      stand = stands_along (g.S.WordsIn.words c.is_row_expired-over.new.seg) (g.S.WordsIn.aside c.is_row_expired-over.new.seg) c.requires.stand (c.is_row_expired-over.ensures.kept.words ∙ (c.key_is.ensures.kept.words ∙ c.loop-passed.invariant.kept.words)) (c.is_row_expired-over.ensures.kept.aside ∙ (c.key_is.ensures.kept.aside ∙ c.loop-passed.invariant.kept.aside));
      there = listed_there s c.loop-passed.at step.row (step_listed step);
    } in
    let r = row_there entry in
    let w = room r.1 in
    record {
      inside = omega (arith, w.high, w.enough, r.2);
      told = told_at r.1 c.loop-passed.at 1 r.2 (omega arith) (omega arith);
      place = small_after entry;
    }

pub returns-then-at-eq0-clause-spot : goal.returns-then-at-eq0-clause-spot
returns-then-at-eq0-clause-spot g c =
    let s = entries c.args.self.now in
    let lt = low c.args.slot s.conf.slots (hash_of c.args.key.now) c.requires.slot c.requires.stand.usable.slots_least in
    spot_last c.loop-passed.invariant.path lt c.requires.slot (path_end c.requires.stand c.loop-passed.invariant.path c.if-at-eq0.true) c.if-at-eq0.true

pub returns-then-key_is-clause-spot : goal.returns-then-key_is-clause-spot
returns-then-key_is-clause-spot g c =
    let s = entries c.args.self.now in
    let lt = low c.args.slot s.conf.slots (hash_of c.args.key.now) c.requires.slot c.requires.stand.usable.slots_least in
    let step = path_step c.loop-passed.invariant.path c.if-at-eq0.false in
    spot_here step lt c.requires.slot (sym c.if-key_is.true ∙ c.key_is.ensures.is step.row (step_listed step))

pub returns-clause-spot : goal.returns-clause-spot
returns-clause-spot g c =
    let s = entries c.args.self.now in
    let lt = low c.args.slot s.conf.slots (hash_of c.args.key.now) c.requires.slot c.requires.stand.usable.slots_least in
    spot_last c.loop-passed.invariant.path lt c.requires.slot (path_whole c.loop-passed.invariant.path (chain_short s c.args.slot c.args.self.now.count c.loop-passed._passed c.requires.stand.count c.loop-passed-test.false)) refl

pub loop-passed-preserved : goal.loop-passed-preserved
loop-passed-preserved g c =
    let step = path_step c.loop-passed.invariant.path c.if-at-eq0.false in
    let words = c.is_row_expired-over.ensures.kept.words ∙ (c.key_is.ensures.kept.words ∙ c.loop-passed.invariant.kept.words) in
    record {
      path = subst (λ b. Path (g.S.WordsIn.words c.args.seg.now) (entries c.args.self.now) c.args.slot c.args.key.now c.args.t c.next_of-at.result (c.loop-passed.at + 1) (c.loop-passed._passed + 1) b) (sym c.either-stale.ensures) (path_next c.next_of-at.result c.is_row_expired-over.result step (sym c.if-key_is.false ∙ c.key_is.ensures.is step.row (step_listed step)) (c.is_row_expired-over.ensures.expired step.row (step_row step) (sym step.place)) (c.next_of-at.ensures.next ∙ ap (λ (w : List ℕ). slice_index w (c.loop-passed.at + 1)) words));
      kept = record { words = c.next_of-at.ensures.kept.words ∙ words; aside = c.next_of-at.ensures.kept.aside ∙ (c.is_row_expired-over.ensures.kept.aside ∙ (c.key_is.ensures.kept.aside ∙ c.loop-passed.invariant.kept.aside)); rest = c.next_of-at.ensures.kept.rest ∙ (c.is_row_expired-over.ensures.kept.rest ∙ (c.key_is.ensures.kept.rest ∙ c.loop-passed.invariant.kept.rest)) };
    }

pub overflow_add-link : goal.overflow_add-link
overflow_add-link g c =
    let s = entries c.args.self.now in
    let step = path_step c.loop-passed.invariant.path c.if-at-eq0.false in
    let home = home_listed step.row c.requires.stand (step_listed step).there in
    let w = room home in
    omega (arith, w.high, w.enough, w.short, step.place)
