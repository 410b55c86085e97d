use Rattle.std.proofs.Common.{◌∙◌, ◌∷◌, [], drop, filter, ap, sym, subst, refl}
use Rattle.std.specs.Prelude.{if◌then◌else◌}
use Rattle.entry_slots.specs.Entries.{chain_of}
use Rattle.entry_slots.specs.Standing.{entries}
use Rattle.entry_slots.specs.RowWalks.{chain_here, chain_end, chain_over}
use Rattle.apcu_iter.specs.RowSums.{with_rows}
use Rattle.row_search.specs.Choices.{Choice, is_chosen}
use Rattle.apcu_iter.specs.declared.summing.Sums.{Sums}
use Rattle.apcu_iter.proofs.RowFolds.{AreSmall, adds_one, adds_on, adds_out, small_sums, small_none}
use Rattle.apcu_iter.proofs.ReadOnlyCalls.{stand_kept, kept_on}
use Rattle.apcu_iter.proofs.summing.add_slot.Goals as goal

pub add_row-requires-clause-there : goal.add_row-requires-clause-there
add_row-requires-clause-there g c =
    (chain_here c.standing_laws.ensures.walked c.args.slots.now (g.S.WordsIn.words c.args.seg.now) (g.S.WordsIn.aside c.args.seg.now) (entries c.args.slots.now) c.args.slot c.loop-passed._passed c.loop-passed.at c.requires.stand c.loop-passed.invariant.at c.if-at-eq0.false).in_listed

pub after-at-requires-clause-there : goal.after-at-requires-clause-there
after-at-requires-clause-there g c =
    (chain_here c.standing_laws.ensures.walked c.args.slots.now (g.S.WordsIn.words c.args.seg.now) (g.S.WordsIn.aside c.args.seg.now) (entries c.args.slots.now) c.args.slot c.loop-passed._passed c.loop-passed.at c.requires.stand c.loop-passed.invariant.at c.if-at-eq0.false).in_listed

pub loop-passed-init : goal.loop-passed-init
loop-passed-init g c =
    let s = entries c.args.slots.now in
    record {
      at = c.first_in-at.ensures.first;
      sums = ap (λ (sums : Sums). with_rows sums (filter (is_chosen c.args.test.now) (chain_of s c.args.slot))) c.new-sums.ensures;
      small = subst AreSmall (sym c.new-sums.ensures) small_none;
      test = refl;
      kept = c.first_in-at.ensures.kept;
    }

pub loop-passed-preserved : goal.loop-passed-preserved
loop-passed-preserved g c =
    let s = entries c.args.slots.now in
    let i = c.loop-passed.invariant in
    let here = chain_here c.standing_laws.ensures.walked c.args.slots.now (g.S.WordsIn.words c.args.seg.now) (g.S.WordsIn.aside c.args.seg.now) s c.args.slot c.loop-passed._passed c.loop-passed.at c.requires.stand i.at c.if-at-eq0.false in
    let row = c.in_ok-sums.ensures in
    let next = c.after-at.ensures in
    let old = c.loop-passed.sums in
    let said = row.sums here.left.row here.member ∙ ap (λ (choice : Choice). if is_chosen choice here.left.row then with_rows old (here.left.row ∷ []) else old) i.test in
    let added = adds_one c.args.test.now here.left.row old c.in_ok-sums.sums i.small said in
    record {
      at = next.row c.args.slot c.requires.slot here.in_rows ∙ here.next;
      sums = adds_on c.args.test.now (chain_of s c.args.slot) c.loop-passed._passed here.left.row old c.in_ok-sums.sums here.left.left added ∙ i.sums;
      small = subst AreSmall (sym added) (small_sums old (filter (is_chosen c.args.test.now) (here.left.row ∷ [])));
      test = row.test ∙ i.test;
      kept = record { words = next.kept.words ∙ row.kept.words ∙ i.kept.words; aside = next.kept.aside ∙ row.kept.aside ∙ i.kept.aside; rest = next.kept.rest ∙ row.kept.rest ∙ i.kept.rest };
    }

pub returns-then-at-eq0-clause-sums : goal.returns-then-at-eq0-clause-sums
returns-then-at-eq0-clause-sums g c =
    let s = entries c.args.slots.now in
    let i = c.loop-passed.invariant in
    let none = chain_end c.standing_laws.ensures.sound c.args.slots.now (g.S.WordsIn.words c.args.seg.now) (g.S.WordsIn.aside c.args.seg.now) s c.args.slot c.loop-passed._passed c.requires.stand (sym c.if-at-eq0.true ∙ i.at) in
    adds_out c.args.test.now (drop c.loop-passed._passed (chain_of s c.args.slot)) c.loop-passed.sums _ i.small none i.sums

pub returns-clause-sums : goal.returns-clause-sums
returns-clause-sums g c =
    let s = entries c.args.slots.now in
    let i = c.loop-passed.invariant in
    let none = chain_over s c.args.slot c.rows-passed-end.result c.loop-passed._passed c.rows-passed-end.ensures.rows c.loop-passed-test.false in
    adds_out c.args.test.now (drop c.loop-passed._passed (chain_of s c.args.slot)) c.loop-passed.sums _ i.small none i.sums

pub add_row-requires-clause-stand : goal.add_row-requires-clause-stand
add_row-requires-clause-stand g c = stand_kept c.args.slots.now c.loop-passed.invariant.kept c.requires.stand

pub after-at-requires-clause-stand : goal.after-at-requires-clause-stand
after-at-requires-clause-stand g c = stand_kept c.args.slots.now (kept_on c.in_ok-sums.ensures.kept c.loop-passed.invariant.kept) c.requires.stand

pub returns-in_err-sums-clause-test : goal.returns-in_err-sums-clause-test
returns-in_err-sums-clause-test g c = c.in_err-sums.ensures.test ∙ c.loop-passed.invariant.test

pub returns-in_err-sums-clause-kept : goal.returns-in_err-sums-clause-kept
returns-in_err-sums-clause-kept g c = kept_on c.in_err-sums.ensures.kept c.loop-passed.invariant.kept
