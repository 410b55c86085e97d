use Rattle.std.proofs.Common.{◌≡◌, ◌<◌, ℕ, length, take, subst, refl, sym, ap, ◌∙◌, arith, rules}
use Rattle.ttl_expunge.specs.Lists.{row_places}
use Rattle.std.proofs.lemmas.Bool.{or_right}
use Rattle.entry_slots.specs.Lists.{is_at, has_place}
use Rattle.entry_slots.specs.Standing.{entries}
use Rattle.std.proofs.lemmas.List.Folds.{list_any-append}
use Rattle.ttl_expunge.proofs.ReadOnlyCalls.{stand_kept}
use Rattle.ttl_expunge.proofs.RemovedPlaces.{listing_starts, listed_at, listing_on, listing_ends}
use Rattle.ttl_expunge.proofs.at_once.removed_places.Goals as goal

pub loop-count-init : goal.loop-count-init
loop-count-init g c = record {
  few = omega arith;
  listing = listing_starts (entries c.args.slots.now).removed c.first_removed-at.result c.args.places.now c.first_removed-at.ensures.first;
  kept = record { words = refl; aside = refl; rest = refl };
}

pub returns-then-at-eq0-clause-collected : goal.returns-then-at-eq0-clause-collected
returns-then-at-eq0-clause-collected g c =
    let sound = c.standing_laws.ensures.sound c.args.slots.now (g.S.WordsIn.words c.args.seg.now) (g.S.WordsIn.aside c.args.seg.now) (entries c.args.slots.now) c.requires.stand in
    listing_ends c.loop-count.invariant.listing sound c.if-at-eq0.true

pub after-at-requires-clause-stand : goal.after-at-requires-clause-stand
after-at-requires-clause-stand g c = stand_kept c.args.slots.now c.loop-count.invariant.kept c.requires.stand

pub after-at-requires-clause-there : goal.after-at-requires-clause-there
after-at-requires-clause-there g c =
    let s = entries c.args.slots.now in
    let sound = c.standing_laws.ensures.sound c.args.slots.now (g.S.WordsIn.words c.args.seg.now) (g.S.WordsIn.aside c.args.seg.now) s c.requires.stand in
    let t = listed_at c.loop-count.invariant.listing sound c.if-at-eq0.false in
    list_any-append (is_at c.loop-count.at) s.rows s.removed ∙ or_right (has_place c.loop-count.at s.rows) (has_place c.loop-count.at s.removed) t.there

pub loop-count-preserved : goal.loop-count-preserved
loop-count-preserved g c =
    let s = entries c.args.slots.now in
    let sound = c.standing_laws.ensures.sound c.args.slots.now (g.S.WordsIn.words c.args.seg.now) (g.S.WordsIn.aside c.args.seg.now) s c.requires.stand in
    let long : c.loop-count.count < length c.loop-count.places = search rules in
    record {
      few = omega (arith, c.loop-count-test.true);
      listing = listing_on c.loop-count.invariant.listing sound c.if-at-eq0.false c.after-at.ensures.removed long;
      kept = record { words = c.after-at.ensures.kept.words ∙ c.loop-count.invariant.kept.words; aside = c.after-at.ensures.kept.aside ∙ c.loop-count.invariant.kept.aside; rest = c.after-at.ensures.kept.rest ∙ c.loop-count.invariant.kept.rest };
    }

pub returns-then-at-eq0-2-clause-collected : goal.returns-then-at-eq0-2-clause-collected
returns-then-at-eq0-2-clause-collected g c =
    let s = entries c.args.slots.now in
    let sound = c.standing_laws.ensures.sound c.args.slots.now (g.S.WordsIn.words c.args.seg.now) (g.S.WordsIn.aside c.args.seg.now) s c.requires.stand in
    let end : c.loop-count.count ≡ 64 = omega (arith, c.loop-count.invariant.few, c.loop-count-test.false) in
    subst (λ (n : ℕ). take n c.loop-count.places ≡ row_places s.removed) end (listing_ends c.loop-count.invariant.listing sound c.if-at-eq0-2.true)
