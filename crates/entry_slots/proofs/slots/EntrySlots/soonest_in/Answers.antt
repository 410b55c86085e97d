use Rattle.std.proofs.Common.{ℕ, ◌+◌, List, sym, ap, ◌∙◌, arith, slice_index}
use Rattle.entry_slots.specs.Standing.{entries}
use Rattle.entry_slots.proofs.RowBlocks.{row_there, room, told_at}
use Rattle.entry_slots.proofs.PresentRows.{HasEntryAt}
use Rattle.entry_slots.proofs.Chains.{small_after}
use Rattle.entry_slots.proofs.KeySearch.{stands_along}
use Rattle.entry_slots.proofs.SpotSearch.{chain_short, listed_there, rest_first, rest_at, rest_next, rest_listed, rest_end, rest_whole}
use Rattle.entry_slots.proofs.slots.EntrySlots.soonest_in.Goals as goal

pub first_in-at-requires : goal.first_in-at-requires
first_in-at-requires g c = record { stand = c.requires.stand; slot = c.requires.slot }

pub loop-passed-init : goal.loop-passed-init
loop-passed-init g c = record {
  low = omega arith;
  rest_of = λ now le. rest_first (entries c.args.self.now) c.args.slot now c.first_in-at.result c.requires.stand c.requires.slot c.first_in-at.ensures.first;
  kept = record { words = c.first_in-at.ensures.kept.words; aside = c.first_in-at.ensures.kept.aside; rest = c.first_in-at.ensures.kept.rest };
}

pub expires_after-last-requires : goal.expires_after-last-requires
expires_after-last-requires g c =
    let s = entries c.args.self.now in
    let here = rest_at (c.loop-passed.invariant.rest_of 0 (omega arith)) c.if-at-eq0.false in
    record {
      stand = stands_along (g.S.WordsIn.words c.loop-passed.seg) (g.S.WordsIn.aside c.loop-passed.seg) c.requires.stand c.loop-passed.invariant.kept.words c.loop-passed.invariant.kept.aside;
      there = listed_there s c.loop-passed.at here.row (rest_listed here);
    }

pub returns-then-at-eq0-clause-unexpired : goal.returns-then-at-eq0-clause-unexpired
returns-then-at-eq0-clause-unexpired g c = λ now le. sym (rest_end c.requires.stand (c.loop-passed.invariant.rest_of now le) c.if-at-eq0.true)

pub next_of-at-requires : goal.next_of-at-requires
next_of-at-requires g c =
    let s = entries c.args.self.now in
    let here = rest_at (c.loop-passed.invariant.rest_of 0 (omega arith)) c.if-at-eq0.false in
    let entry : HasEntryAt c.args.self.now (g.S.WordsIn.words c.expires_after-last.new.seg) (g.S.WordsIn.aside c.expires_after-last.new.seg) c.loop-passed.at = record {
      entries = s;
      stand = stands_along (g.S.WordsIn.words c.expires_after-last.new.seg) (g.S.WordsIn.aside c.expires_after-last.new.seg) c.requires.stand (c.expires_after-last.ensures.kept.words ∙ c.loop-passed.invariant.kept.words) (c.expires_after-last.ensures.kept.aside ∙ c.loop-passed.invariant.kept.aside);
      there = listed_there s c.loop-passed.at here.row (rest_listed here);
    } in
    let r = row_there entry in
    let w = room r.1 in
    record {
      inside = omega (arith, w.high, w.enough, r.2);
      told = told_at r.1 c.loop-passed.at 1 r.2 (omega arith) (omega arith);
      place = small_after entry;
    }

pub loop-passed-preserved : goal.loop-passed-preserved
loop-passed-preserved g c =
    let words = c.expires_after-last.ensures.kept.words ∙ c.loop-passed.invariant.kept.words in
    record {
      low = omega (arith, c.expires_after-last.ensures.low, c.loop-passed.invariant.low);
      rest_of = λ now le.
          let here = rest_at (c.loop-passed.invariant.rest_of now (omega (arith, le, c.expires_after-last.ensures.low))) c.if-at-eq0.false in
          rest_next c.next_of-at.result here (sym (c.expires_after-last.ensures.unexpired here.row now (rest_listed here) le)) (c.next_of-at.ensures.next ∙ ap (λ (w : List ℕ). slice_index w (c.loop-passed.at + 1)) words);
      kept = record { words = c.next_of-at.ensures.kept.words ∙ words; aside = c.next_of-at.ensures.kept.aside ∙ (c.expires_after-last.ensures.kept.aside ∙ c.loop-passed.invariant.kept.aside); rest = c.next_of-at.ensures.kept.rest ∙ (c.expires_after-last.ensures.kept.rest ∙ c.loop-passed.invariant.kept.rest) };
    }

pub returns-clause-unexpired : goal.returns-clause-unexpired
returns-clause-unexpired g c = λ now le. sym (rest_whole (c.loop-passed.invariant.rest_of now le) (chain_short (entries c.args.self.now) c.args.slot c.args.self.now.count c.loop-passed._passed c.requires.stand.count c.loop-passed-test.false))
