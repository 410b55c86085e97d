use Rattle.std.proofs.Common.{◌≡◌, ◌∙◌, ◌+◌, ◌∷◌, [], ◌++◌, ap, sym, arith, length, length-append, drop, map, append-nil}
use Rattle.std.proofs.lemmas.Grind.{common_steps}
use Rattle.apcu_model.specs.Infos.{listed_of}
use Rattle.entry_slots.specs.Lists.{first_place}
use Rattle.entry_slots.specs.Standing.{entries}
use Rattle.entry_slots.specs.RowWalks.{removed_here, removed_end}
use Rattle.cache_info.proofs.ListedRows.{row_goes_on}
use Rattle.cache_info.proofs.rows.list_removed.Goals as goal

pub listed_at-requires-clause-there : goal.listed_at-requires-clause-there
listed_at-requires-clause-there g c =
    (removed_here c.standing_laws.ensures.sound c.args.slots.now (g.S.WordsIn.words c.args.seg.now) (g.S.WordsIn.aside c.args.seg.now) (entries c.args.slots.now) (length c.loop-at.list.items) c.loop-at.at c.requires.stand c.loop-at.invariant.at c.loop-at-test.true).in_listed

pub after-at-requires-clause-there : goal.after-at-requires-clause-there
after-at-requires-clause-there g c =
    (removed_here c.standing_laws.ensures.sound c.args.slots.now (g.S.WordsIn.words c.args.seg.now) (g.S.WordsIn.aside c.args.seg.now) (entries c.args.slots.now) (length c.loop-at.list.items) c.loop-at.at c.requires.stand c.loop-at.invariant.at c.loop-at-test.true).in_listed

pub loop-at-preserved : goal.loop-at-preserved
loop-at-preserved g c =
    let s = entries c.args.slots.now in
    let i = c.loop-at.invariant in
    let old = c.loop-at.list.items in
    let new = c.push.new.self.items in
    let here = removed_here c.standing_laws.ensures.sound c.args.slots.now (g.S.WordsIn.words c.args.seg.now) (g.S.WordsIn.aside c.args.seg.now) s (length old) c.loop-at.at c.requires.stand i.at c.loop-at-test.true in
    let n : length new ≡ length old + 1 = omega (arith, ap length c.in_ok-push.ensures.items, length-append old (c.in_ok-listed_at.field-0 ∷ [])) in
    let told = c.in_ok-listed_at.ensures.row here.left.row here.member in
    let next = c.after-at.ensures in
    let row = c.in_ok-listed_at.ensures in
    record {
      at = next.removed here.in_rows ∙ here.next ∙ sym (ap (λ k. first_place (drop k s.removed)) n);
      rows = ap (λ k. new ++ map listed_of (drop k s.removed)) n ∙ row_goes_on s.removed (length old) here.left.row c.in_ok-listed_at.field-0 old new here.left.left told c.in_ok-push.ensures.items ∙ i.rows;
      kept = record { words = next.kept.words ∙ row.kept.words ∙ i.kept.words; aside = next.kept.aside ∙ row.kept.aside ∙ i.kept.aside; rest = next.kept.rest ∙ row.kept.rest ∙ i.kept.rest };
    }

pub returns-clause-rows : goal.returns-clause-rows
returns-clause-rows g c =
    let s = entries c.args.slots.now in
    let i = c.loop-at.invariant in
    let old = c.loop-at.list.items in
    let none = removed_end c.standing_laws.ensures.sound c.args.slots.now (g.S.WordsIn.words c.args.seg.now) (g.S.WordsIn.aside c.args.seg.now) s (length old) c.requires.stand (sym c.loop-at-test.false ∙ i.at) in
    sym (append-nil old) ∙ sym (ap (λ l. old ++ map listed_of l) none) ∙ i.rows

pub standing_laws-requires : goal.standing_laws-requires
standing_laws-requires g c = grind (arith, common_steps)

pub first_removed-at-requires : goal.first_removed-at-requires
first_removed-at-requires g c = grind (arith, common_steps)

pub loop-at-init : goal.loop-at-init
loop-at-init g c = grind (arith, common_steps)

pub listed_at-requires-clause-stand : goal.listed_at-requires-clause-stand
listed_at-requires-clause-stand g c = grind (arith, common_steps)

pub returns-in_err-listed_at-clause-rows : goal.returns-in_err-listed_at-clause-rows
returns-in_err-listed_at-clause-rows g c = grind (arith, common_steps)

pub returns-in_err-listed_at-clause-kept : goal.returns-in_err-listed_at-clause-kept
returns-in_err-listed_at-clause-kept g c = grind (arith, common_steps)

pub returns-in_err-push-clause-rows : goal.returns-in_err-push-clause-rows
returns-in_err-push-clause-rows g c = grind (arith, common_steps)

pub returns-in_err-push-clause-kept : goal.returns-in_err-push-clause-kept
returns-in_err-push-clause-kept g c = grind (arith, common_steps)

pub after-at-requires-clause-stand : goal.after-at-requires-clause-stand
after-at-requires-clause-stand g c = grind (arith, common_steps)

pub loop-at-smaller : goal.loop-at-smaller
loop-at-smaller g c = grind (arith, common_steps)

pub returns-clause-kept : goal.returns-clause-kept
returns-clause-kept g c = grind (arith, common_steps)
