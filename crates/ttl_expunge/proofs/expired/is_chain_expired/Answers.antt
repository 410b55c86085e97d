use Rattle.std.proofs.Common.{◌≡◌, true, sym, ap, ◌∙◌}
use Rattle.std.proofs.lemmas.Bool.{or_left}
use Rattle.std.proofs.lemmas.List.Folds.{list_any-append}
use Rattle.apcu_model.specs.Expiry.{is_expired}
use Rattle.entry_slots.specs.Lists.{is_at, has_place}
use Rattle.entry_slots.specs.Standing.{entries}
use Rattle.ttl_expunge.proofs.ReadOnlyCalls.{stand_kept}
use Rattle.ttl_expunge.proofs.ExpiredChains.{asking_starts, asking_next, asking_on, asking_falls, asking_ends, next_listed}
use Rattle.ttl_expunge.proofs.expired.is_chain_expired.Goals as goal

pub loop-at-init : goal.loop-at-init
loop-at-init g c = record {
  asking = asking_starts (entries c.args.slots.now) c.args.t c.args.slot c.first_in-at.result c.first_in-at.ensures.first;
  kept = c.first_in-at.ensures.kept;
}

pub is_expired-requires : goal.is_expired-requires
is_expired-requires g c =
    let s = entries c.args.slots.now in
    let sound = c.standing_laws.ensures.sound c.args.slots.now (g.S.WordsIn.words c.args.seg.now) (g.S.WordsIn.aside c.args.seg.now) s c.requires.stand in
    let n = asking_next c.loop-at.invariant.asking sound c.loop-at-test.true in
    record {
      stand = stand_kept c.args.slots.now c.loop-at.invariant.kept c.requires.stand;
      there = list_any-append (is_at c.loop-at.at) s.rows s.removed ∙ or_left (has_place c.loop-at.at s.rows) (has_place c.loop-at.at s.removed) n.listed;
      limit = c.requires.limit;
    }

pub after-at-requires : goal.after-at-requires
after-at-requires g c =
    let s = entries c.args.slots.now in
    let sound = c.standing_laws.ensures.sound c.args.slots.now (g.S.WordsIn.words c.args.seg.now) (g.S.WordsIn.aside c.args.seg.now) s c.requires.stand in
    let n = asking_next c.loop-at.invariant.asking sound c.loop-at-test.true in
    record {
      stand = stand_kept c.args.slots.now c.is_expired.ensures.kept (stand_kept c.args.slots.now c.loop-at.invariant.kept c.requires.stand);
      there = list_any-append (is_at c.loop-at.at) s.rows s.removed ∙ or_left (has_place c.loop-at.at s.rows) (has_place c.loop-at.at s.removed) n.listed;
    }

pub loop-at-preserved : goal.loop-at-preserved
loop-at-preserved g c =
    let s = entries c.args.slots.now in
    let sound = c.standing_laws.ensures.sound c.args.slots.now (g.S.WordsIn.words c.args.seg.now) (g.S.WordsIn.aside c.args.seg.now) s c.requires.stand in
    let n = asking_next c.loop-at.invariant.asking sound c.loop-at-test.true in
    let is : is_expired s.conf c.args.t n.row ≡ true = sym (c.is_expired.ensures.expired n.row (next_listed n)) ∙ c.if-not-is_expired.false in
    record {
      asking = asking_on c.loop-at.invariant.asking n is (c.after-at.ensures.row c.args.slot c.requires.slot n.there);
      kept = record {
        words = c.after-at.ensures.kept.words ∙ (c.is_expired.ensures.kept.words ∙ c.loop-at.invariant.kept.words);
        aside = c.after-at.ensures.kept.aside ∙ (c.is_expired.ensures.kept.aside ∙ c.loop-at.invariant.kept.aside);
        rest = c.after-at.ensures.kept.rest ∙ (c.is_expired.ensures.kept.rest ∙ c.loop-at.invariant.kept.rest);
      };
    }

pub loop-at-smaller : goal.loop-at-smaller
loop-at-smaller g c =
    let s = entries c.args.slots.now in
    let sound = c.standing_laws.ensures.sound c.args.slots.now (g.S.WordsIn.words c.args.seg.now) (g.S.WordsIn.aside c.args.seg.now) s c.requires.stand in
    let n = asking_next c.loop-at.invariant.asking sound c.loop-at-test.true in
    asking_falls c.loop-at.invariant.asking n (c.after-at.ensures.row c.args.slot c.requires.slot n.there) sound

pub returns-clause-all : goal.returns-clause-all
returns-clause-all g c = λ yes.
    let s = entries c.args.slots.now in
    let sound = c.standing_laws.ensures.sound c.args.slots.now (g.S.WordsIn.words c.args.seg.now) (g.S.WordsIn.aside c.args.seg.now) s c.requires.stand in
    asking_ends c.loop-at.invariant.asking sound c.loop-at-test.false
