use Rattle.std.proofs.Common.{refl, ap, ◌∙◌, subst}
use Rattle.std.proofs.lemmas.Bool.{or_right}
use Rattle.seg_words.specs.Probing.{Met}
use Rattle.seg_words.specs.Windows.{Aside, has}
use Rattle.entry_slots.specs.Lists.{is_at, has_place}
use Rattle.std.proofs.lemmas.List.Folds.{list_any-append}
use Rattle.ttl_expunge.proofs.SweptRows.{turn, order_unrefused, sweeping_starts, sweeping_on, sweeping_falls, sweeping_ends}
use Rattle.ttl_expunge.proofs.ReadOnlyCalls.{stand_kept}
use Rattle.entry_slots.specs.Standing.{entries}
use Rattle.ttl_expunge.proofs.expunge.sweep_removed.Goals as goal

pub loop-at-init : goal.loop-at-init
loop-at-init g c =
    let s = entries c.args.slots.now in
    let a = g.S.WordsIn.aside c.args.seg.now in
    record {
      sweeping = sweeping_starts s a c.first_removed-at.result c.first_removed-at.ensures.first c.requires.ready.unrefused;
      stand = c.requires.ready.stand;
      rest = refl;
    }

pub after-next-requires-clause-there : goal.after-next-requires-clause-there
after-next-requires-clause-there g c =
    let s = entries c.loop-at.slots in
    let sound = c.standing_laws.ensures.sound c.loop-at.slots (g.S.WordsIn.words c.loop-at.seg) (g.S.WordsIn.aside c.loop-at.seg) (entries c.loop-at.slots) c.loop-at.invariant.stand in
    let t = turn c.loop-at.invariant.sweeping sound c.loop-at-test.true in
    list_any-append (is_at c.loop-at.at) s.rows s.removed ∙ or_right (has_place c.loop-at.at s.rows) (has_place c.loop-at.at s.removed) t.there

pub sweep_at-requires : goal.sweep_at-requires
sweep_at-requires g c =
    let sound = c.standing_laws.ensures.sound c.loop-at.slots (g.S.WordsIn.words c.loop-at.seg) (g.S.WordsIn.aside c.loop-at.seg) (entries c.loop-at.slots) c.loop-at.invariant.stand in
    let t = turn c.loop-at.invariant.sweeping sound c.loop-at-test.true in
    record {
      stand = stand_kept c.loop-at.slots c.after-next.ensures.kept c.loop-at.invariant.stand;
      there = t.there;
      unrefused = ap (λ (a : Aside). has c.loop-at.at a.refused) c.after-next.ensures.kept.aside ∙ order_unrefused c.loop-at.invariant.sweeping t;
    }

pub loop-at-preserved : goal.loop-at-preserved
loop-at-preserved g c =
    let sound = c.standing_laws.ensures.sound c.loop-at.slots (g.S.WordsIn.words c.loop-at.seg) (g.S.WordsIn.aside c.loop-at.seg) (entries c.loop-at.slots) c.loop-at.invariant.stand in
    let t = turn c.loop-at.invariant.sweeping sound c.loop-at-test.true in
    let met : Met (g.S.WordsIn.aside c.loop-at.seg) (g.S.WordsIn.aside c.sweep_at.new.seg) c.loop-at.at = subst (λ (a : Aside). Met a (g.S.WordsIn.aside c.sweep_at.new.seg) c.loop-at.at) c.after-next.ensures.kept.aside c.sweep_at.ensures.probes.met in
    record {
      sweeping = sweeping_on c.loop-at.invariant.sweeping sound c.loop-at-test.true c.sweep_at.ensures.swept met (c.after-next.ensures.removed t.there);
      stand = c.sweep_at.ensures.probes.stand;
      rest = c.sweep_at.ensures.probes.rest ∙ (c.after-next.ensures.kept.rest ∙ c.loop-at.invariant.rest);
    }

pub loop-at-smaller : goal.loop-at-smaller
loop-at-smaller g c =
    let sound = c.standing_laws.ensures.sound c.loop-at.slots (g.S.WordsIn.words c.loop-at.seg) (g.S.WordsIn.aside c.loop-at.seg) (entries c.loop-at.slots) c.loop-at.invariant.stand in
    let sound' = c.standing_laws.ensures.sound c.sweep_at.new.slots (g.S.WordsIn.words c.sweep_at.new.seg) (g.S.WordsIn.aside c.sweep_at.new.seg) (entries c.sweep_at.new.slots) c.sweep_at.ensures.probes.stand in
    let t = turn c.loop-at.invariant.sweeping sound c.loop-at-test.true in
    let met : Met (g.S.WordsIn.aside c.loop-at.seg) (g.S.WordsIn.aside c.sweep_at.new.seg) c.loop-at.at = subst (λ (a : Aside). Met a (g.S.WordsIn.aside c.sweep_at.new.seg) c.loop-at.at) c.after-next.ensures.kept.aside c.sweep_at.ensures.probes.met in
    sweeping_falls c.loop-at.invariant.sweeping sound c.loop-at-test.true c.sweep_at.ensures.swept met (c.after-next.ensures.removed t.there) sound'

pub returns : goal.returns
returns g c =
    let sound = c.standing_laws.ensures.sound c.loop-at.slots (g.S.WordsIn.words c.loop-at.seg) (g.S.WordsIn.aside c.loop-at.seg) (entries c.loop-at.slots) c.loop-at.invariant.stand in
    record {
      sweeps = sweeping_ends c.loop-at.invariant.sweeping sound c.loop-at-test.false;
      stand = c.loop-at.invariant.stand;
      rest = c.loop-at.invariant.rest;
    }
