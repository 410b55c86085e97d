use Rattle.std.proofs.Common.{◌∙◌, ◌++◌, ◌∷◌, [], List, drop, ap, sym, refl}
use Rattle.apcu_model.specs.declared.items.ItemRow.{ItemRow}
use Rattle.apcu_model.specs.Cache.{Row}
use Rattle.entry_slots.specs.Entries.{chain_of}
use Rattle.entry_slots.specs.Standing.{entries}
use Rattle.entry_slots.specs.RowWalks.{chain_here, chain_end, chain_over}
use Rattle.row_search.specs.Choices.{Choice, chosen_items}
use Rattle.apcu_iter.proofs.RowFolds.{goes_on, goes_out, items_joined}
use Rattle.apcu_iter.proofs.chains.list_slot.Goals as goal

pub add_item-requires-clause-there : goal.add_item-requires-clause-there
add_item-requires-clause-there g c =
    (chain_here c.standing_laws.ensures.walked c.args.slots.now (g.S.WordsIn.words c.args.seg.now) (g.S.WordsIn.aside c.args.seg.now) (entries c.args.slots.now) c.args.slot c.loop-passed._passed c.loop-passed.at c.requires.stand c.loop-passed.invariant.at c.if-at-eq0.false).in_listed

pub after-at-requires-clause-there : goal.after-at-requires-clause-there
after-at-requires-clause-there g c =
    (chain_here c.standing_laws.ensures.walked c.args.slots.now (g.S.WordsIn.words c.args.seg.now) (g.S.WordsIn.aside c.args.seg.now) (entries c.args.slots.now) c.args.slot c.loop-passed._passed c.loop-passed.at c.requires.stand c.loop-passed.invariant.at c.if-at-eq0.false).in_listed

pub loop-passed-preserved : goal.loop-passed-preserved
loop-passed-preserved g c =
    let s = entries c.args.slots.now in
    let i = c.loop-passed.invariant in
    let here = chain_here c.standing_laws.ensures.walked c.args.slots.now (g.S.WordsIn.words c.args.seg.now) (g.S.WordsIn.aside c.args.seg.now) s c.args.slot c.loop-passed._passed c.loop-passed.at c.requires.stand i.at c.if-at-eq0.false in
    let row = c.in_ok-add_item.ensures in
    let next = c.after-at.ensures in
    let f : List Row → List ItemRow = chosen_items c.args.test.now c.args.fields in
    let added = row.items here.left.row here.member ∙ ap (λ (choice : Choice). c.loop-passed.items.items ++ chosen_items choice c.args.fields (here.left.row ∷ [])) i.test in
    record {
      at = next.row c.args.slot c.requires.slot here.in_rows ∙ here.next;
      items = goes_on f (items_joined c.args.test.now c.args.fields) (chain_of s c.args.slot) c.loop-passed._passed here.left.row c.loop-passed.items.items c.add_item.new.items.items here.left.left added ∙ i.items;
      test = row.test ∙ i.test;
      kept = record { words = next.kept.words ∙ row.kept.words ∙ i.kept.words; aside = next.kept.aside ∙ row.kept.aside ∙ i.kept.aside; rest = next.kept.rest ∙ row.kept.rest ∙ i.kept.rest };
    }

pub returns-then-at-eq0-clause-items : goal.returns-then-at-eq0-clause-items
returns-then-at-eq0-clause-items g c =
    let s = entries c.args.slots.now in
    let i = c.loop-passed.invariant in
    let none = chain_end c.standing_laws.ensures.sound c.args.slots.now (g.S.WordsIn.words c.args.seg.now) (g.S.WordsIn.aside c.args.seg.now) s c.args.slot c.loop-passed._passed c.requires.stand (sym c.if-at-eq0.true ∙ i.at) in
    goes_out (chosen_items c.args.test.now c.args.fields) refl (drop c.loop-passed._passed (chain_of s c.args.slot)) c.loop-passed.items.items _ none i.items

pub returns-clause-items : goal.returns-clause-items
returns-clause-items g c =
    let s = entries c.args.slots.now in
    let i = c.loop-passed.invariant in
    let none = chain_over s c.args.slot c.rows-passed-end.result c.loop-passed._passed c.rows-passed-end.ensures.rows c.loop-passed-test.false in
    goes_out (chosen_items c.args.test.now c.args.fields) refl (drop c.loop-passed._passed (chain_of s c.args.slot)) c.loop-passed.items.items _ none i.items
