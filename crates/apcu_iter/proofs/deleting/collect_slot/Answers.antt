use Rattle.std.proofs.Common.{◌∙◌, ◌++◌, ◌∷◌, [], List, drop, ap, sym, refl}
use Rattle.std.specs.Prelude.{ℕ}
use Rattle.apcu_model.specs.Cache.{Row}
use Rattle.entry_slots.specs.Entries.{chain_of}
use Rattle.entry_slots.specs.Standing.{entries}
use Rattle.entry_slots.specs.RowWalks.{chain_here, chain_end, chain_over}
use Rattle.row_search.specs.Choices.{Choice, chosen_places}
use Rattle.apcu_iter.proofs.RowFolds.{goes_on, goes_out, places_joined}
use Rattle.apcu_iter.proofs.deleting.collect_slot.Goals as goal

pub collect_row-requires-clause-there : goal.collect_row-requires-clause-there
collect_row-requires-clause-there g c =
    (chain_here c.standing_laws.ensures.walked c.args.slots.now (g.S.WordsIn.words c.args.seg.now) (g.S.WordsIn.aside c.args.seg.now) (entries c.args.slots.now) c.args.slot c.loop-passed._passed c.loop-passed.at c.requires.stand c.loop-passed.invariant.at c.if-at-eq0.false).in_listed

pub after-at-requires-clause-there : goal.after-at-requires-clause-there
after-at-requires-clause-there g c =
    (chain_here c.standing_laws.ensures.walked c.args.slots.now (g.S.WordsIn.words c.args.seg.now) (g.S.WordsIn.aside c.args.seg.now) (entries c.args.slots.now) c.args.slot c.loop-passed._passed c.loop-passed.at c.requires.stand c.loop-passed.invariant.at c.if-at-eq0.false).in_listed

pub loop-passed-preserved : goal.loop-passed-preserved
loop-passed-preserved g c =
    let s = entries c.args.slots.now in
    let i = c.loop-passed.invariant in
    let here = chain_here c.standing_laws.ensures.walked c.args.slots.now (g.S.WordsIn.words c.args.seg.now) (g.S.WordsIn.aside c.args.seg.now) s c.args.slot c.loop-passed._passed c.loop-passed.at c.requires.stand i.at c.if-at-eq0.false in
    let row = c.in_ok-collect_row.ensures in
    let next = c.after-at.ensures in
    let f : List Row → List ℕ = chosen_places c.args.test.now in
    let added = row.places here.left.row here.member ∙ ap (λ (choice : Choice). c.loop-passed.places.items ++ chosen_places choice (here.left.row ∷ [])) i.test in
    record {
      at = next.row c.args.slot c.requires.slot here.in_rows ∙ here.next;
      places = goes_on f (places_joined c.args.test.now) (chain_of s c.args.slot) c.loop-passed._passed here.left.row c.loop-passed.places.items c.collect_row.new.places.items here.left.left added ∙ i.places;
      test = row.test ∙ i.test;
      kept = record { words = next.kept.words ∙ row.kept.words ∙ i.kept.words; aside = next.kept.aside ∙ row.kept.aside ∙ i.kept.aside; rest = next.kept.rest ∙ row.kept.rest ∙ i.kept.rest };
    }

pub returns-then-at-eq0-clause-places : goal.returns-then-at-eq0-clause-places
returns-then-at-eq0-clause-places g c =
    let s = entries c.args.slots.now in
    let i = c.loop-passed.invariant in
    let none = chain_end c.standing_laws.ensures.sound c.args.slots.now (g.S.WordsIn.words c.args.seg.now) (g.S.WordsIn.aside c.args.seg.now) s c.args.slot c.loop-passed._passed c.requires.stand (sym c.if-at-eq0.true ∙ i.at) in
    goes_out (chosen_places c.args.test.now) refl (drop c.loop-passed._passed (chain_of s c.args.slot)) c.loop-passed.places.items _ none i.places

pub returns-clause-places : goal.returns-clause-places
returns-clause-places g c =
    let s = entries c.args.slots.now in
    let i = c.loop-passed.invariant in
    let none = chain_over s c.args.slot c.rows-passed-end.result c.loop-passed._passed c.rows-passed-end.ensures.rows c.loop-passed-test.false in
    goes_out (chosen_places c.args.test.now) refl (drop c.loop-passed._passed (chain_of s c.args.slot)) c.loop-passed.places.items _ none i.places
