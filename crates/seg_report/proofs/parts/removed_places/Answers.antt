use Rattle.std.proofs.Common.{◌≡◌, ◌∙◌, ◌+◌, ◌∷◌, [], ◌++◌, ap, sym, arith, length, length-append, drop, append-nil}
use Rattle.entry_slots.specs.Lists.{first_place}
use Rattle.entry_slots.specs.Standing.{entries}
use Rattle.entry_slots.specs.RowWalks.{removed_here, removed_end}
use Rattle.seg_report.proofs.SortedPlaces.{place_goes_on, places_of, sorted_places}
use Rattle.seg_report.proofs.parts.removed_places.Goals as goal

pub after-at-requires-clause-there : goal.after-at-requires-clause-there
after-at-requires-clause-there g c =
    (removed_here c.standing_laws.ensures.sound c.args.slots.now (g.S.WordsIn.words c.args.seg.now) (g.S.WordsIn.aside c.args.seg.now) (entries c.args.slots.now) (length c.loop-at.places.items) c.loop-at.at c.requires.stand c.loop-at.invariant.at c.loop-at-test.true).in_listed

pub loop-at-preserved : goal.loop-at-preserved
loop-at-preserved g c =
    let s = entries c.args.slots.now in
    let i = c.loop-at.invariant in
    let old = c.loop-at.places.items in
    let new = c.push.new.self.items in
    let here = removed_here c.standing_laws.ensures.sound c.args.slots.now (g.S.WordsIn.words c.args.seg.now) (g.S.WordsIn.aside c.args.seg.now) s (length old) c.loop-at.at c.requires.stand i.at c.loop-at-test.true in
    let n : length new ≡ length old + 1 = omega (arith, ap length c.in_ok-push.ensures.items, length-append old (c.loop-at.at ∷ [])) in
    let next = c.after-at.ensures in
    record {
      at = next.removed here.in_rows ∙ here.next ∙ sym (ap (λ k. first_place (drop k s.removed)) n);
      places = ap (λ k. new ++ places_of (drop k s.removed)) n ∙ place_goes_on s.removed (length old) here.left.row c.loop-at.at old new here.left.left here.left.place c.in_ok-push.ensures.items ∙ i.places;
      kept = record { words = next.kept.words ∙ i.kept.words; aside = next.kept.aside ∙ i.kept.aside; rest = next.kept.rest ∙ i.kept.rest };
    }

pub returns-clause-places : goal.returns-clause-places
returns-clause-places g c =
    let s = entries c.args.slots.now in
    let i = c.loop-at.invariant in
    let old = c.loop-at.places.items in
    let none = removed_end c.standing_laws.ensures.sound c.args.slots.now (g.S.WordsIn.words c.args.seg.now) (g.S.WordsIn.aside c.args.seg.now) s (length old) c.requires.stand (sym c.loop-at-test.false ∙ i.at) in
    let all = sym (append-nil old) ∙ sym (ap (λ l. old ++ places_of l) none) ∙ i.places in
    sorted_places s.removed old c.sort_unstable.new.self.items all c.sort_unstable.ensures.permutation c.sort_unstable.ensures.sorted
