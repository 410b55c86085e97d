use Rattle.std.proofs.Common.{◌≡◌, ℕ, ◌+◌, ◌≤◌, false, List, sym, ap, ◌∙◌, refl, arith, slice_index}
use Rattle.std.specs.List.{list_any}
use Rattle.std.proofs.lemmas.Bool.{false≢true, false_from_ne_true}
use Rattle.seg_words.specs.Members.{any_there, Contains-filter}
use Rattle.apcu_model.specs.Expiry.{is_expired}
use Rattle.apcu_model.specs.SlotOrder.{is_in_slot}
use Rattle.entry_slots.specs.Entries.{Entries, chain_of}
use Rattle.entry_slots.specs.Standing.{AreUnexpired, entries}
use Rattle.entry_slots.proofs.RowBlocks.{row_there, room, told_at}
use Rattle.entry_slots.proofs.PresentRows.{HasEntryAt}
use Rattle.entry_slots.proofs.Chains.{small_after}
use Rattle.entry_slots.proofs.KeySearch.{stands_along}
use Rattle.entry_slots.proofs.SpotSearch.{chain_short, listed_there, rest_start, rest_at, rest_next, rest_listed, rest_expired, rest_end, rest_whole, spot_stale}
use Rattle.entry_slots.proofs.slots.EntrySlots.has_expired.Goals as goal

-- no row of the chain is expired, since none at all is
none_expired : (t soonest : ℕ) (s : Entries) (slot : ℕ) → AreUnexpired s.conf soonest s.rows → t ≤ soonest → false ≡ list_any (is_expired s.conf t) (chain_of s slot)
none_expired t soonest s slot h le = sym (false_from_ne_true (list_any (is_expired s.conf t) (chain_of s slot)) (λ some.
    let r = any_there (is_expired s.conf t) (chain_of s slot) some in
    false≢true (sym (h t le r.0 (Contains-filter (is_in_slot s.conf slot) s.rows r.0 r.1).0) ∙ r.2)))

pub returns-then-t-self-clause-expired : goal.returns-then-t-self-clause-expired
returns-then-t-self-clause-expired g c = let s = entries c.args.self.now in none_expired c.args.t c.args.self.now.soonest s c.args.spot.slot c.requires.stand.unexpired (omega (arith, c.if-t-self.true))

pub returns-then-spot-clause-expired : goal.returns-then-spot-clause-expired
returns-then-spot-clause-expired g c = spot_stale c.args.spot c.requires.spot c.if-spot.true

pub loop-passed-init : goal.loop-passed-init
loop-passed-init g c = record {
  rest_of = rest_start c.args.spot c.requires.stand c.requires.spot c.if-spot.false;
  kept = record { words = refl; aside = refl; rest = refl };
}

pub is_expired-requires : goal.is_expired-requires
is_expired-requires g c =
    let s = entries c.args.self.now in
    let here = rest_at c.loop-passed.invariant.rest_of c.if-at-eq0.false in
    record {
      stand = stands_along (g.S.WordsIn.words c.loop-passed.seg) (g.S.WordsIn.aside c.loop-passed.seg) c.requires.stand c.loop-passed.invariant.kept.words c.loop-passed.invariant.kept.aside;
      there = listed_there s c.loop-passed.at here.row (rest_listed here);
      limit = c.requires.limit;
    }

pub returns-then-at-eq0-clause-expired : goal.returns-then-at-eq0-clause-expired
returns-then-at-eq0-clause-expired g c = rest_end c.requires.stand c.loop-passed.invariant.rest_of c.if-at-eq0.true

pub returns-then-is_expired-clause-expired : goal.returns-then-is_expired-clause-expired
returns-then-is_expired-clause-expired g c =
    let here = rest_at c.loop-passed.invariant.rest_of c.if-at-eq0.false in
    rest_expired here (sym c.if-is_expired.true ∙ c.is_expired.ensures.expired here.row (rest_listed here))

pub next_of-at-requires : goal.next_of-at-requires
next_of-at-requires g c =
    let s = entries c.args.self.now in
    let here = rest_at c.loop-passed.invariant.rest_of c.if-at-eq0.false in
    let entry : HasEntryAt c.args.self.now (g.S.WordsIn.words c.is_expired.new.seg) (g.S.WordsIn.aside c.is_expired.new.seg) c.loop-passed.at = record {
      entries = s;
      stand = stands_along (g.S.WordsIn.words c.is_expired.new.seg) (g.S.WordsIn.aside c.is_expired.new.seg) c.requires.stand (c.is_expired.ensures.kept.words ∙ c.loop-passed.invariant.kept.words) (c.is_expired.ensures.kept.aside ∙ c.loop-passed.invariant.kept.aside);
      there = listed_there s c.loop-passed.at here.row (rest_listed here);
    } in
    let r = row_there entry in
    let w = room r.1 in
    record {
      inside = omega (arith, w.high, w.enough, r.2);
      told = told_at r.1 c.loop-passed.at 1 r.2 (omega arith) (omega arith);
      place = small_after entry;
    }

pub loop-passed-preserved : goal.loop-passed-preserved
loop-passed-preserved g c =
    let words = c.is_expired.ensures.kept.words ∙ c.loop-passed.invariant.kept.words in
    let here = rest_at c.loop-passed.invariant.rest_of c.if-at-eq0.false in
    record {
      rest_of = rest_next c.next_of-at.result here (sym c.if-is_expired.false ∙ c.is_expired.ensures.expired here.row (rest_listed here)) (c.next_of-at.ensures.next ∙ ap (λ (w : List ℕ). slice_index w (c.loop-passed.at + 1)) words);
      kept = record { words = c.next_of-at.ensures.kept.words ∙ words; aside = c.next_of-at.ensures.kept.aside ∙ (c.is_expired.ensures.kept.aside ∙ c.loop-passed.invariant.kept.aside); rest = c.next_of-at.ensures.kept.rest ∙ (c.is_expired.ensures.kept.rest ∙ c.loop-passed.invariant.kept.rest) };
    }

pub returns-clause-expired : goal.returns-clause-expired
returns-clause-expired g c = rest_whole c.loop-passed.invariant.rest_of (chain_short (entries c.args.self.now) c.args.spot.slot c.args.self.now.count c.loop-passed._passed c.requires.stand.count c.loop-passed-test.false)
