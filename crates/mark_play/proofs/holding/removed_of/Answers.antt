use Rattle.std.proofs.Common.{◌∙◌, ◌+◌, ◌≤◌, ℕ, refl, sym, subst, arith}
use Rattle.std.specs.Prelude.{count_by}
use Rattle.entry_slots.specs.Lists.{is_at}
use Rattle.entry_slots.specs.Standing.{entries}
use Rattle.entry_slots.specs.RowWalks.{removed_here, removed_end}
use Rattle.mark_play.proofs.RowPlaces.{its_place, removed_zero, passed_one, passed_all, shorter}
use Rattle.mark_play.specs.HeldPlaces.{IsRowPlace}
use Rattle.mark_play.proofs.holding.removed_of.Goals as goal

pub head-requires-clause-there : goal.head-requires-clause-there
head-requires-clause-there g c =
    (removed_here c.lower_laws.ensures.standing.sound c.args.slots.now (g.S.WordsIn.words c.args.seg.now) (g.S.WordsIn.aside c.args.seg.now) (entries c.args.slots.now) c.loop-at.invariant.passed c.loop-at.at c.requires.stand c.loop-at.invariant.at c.loop-at-test.true).in_listed

pub after-at-requires-clause-there : goal.after-at-requires-clause-there
after-at-requires-clause-there g c =
    (removed_here c.lower_laws.ensures.standing.sound c.args.slots.now (g.S.WordsIn.words c.args.seg.now) (g.S.WordsIn.aside c.args.seg.now) (entries c.args.slots.now) c.loop-at.invariant.passed c.loop-at.at c.requires.stand c.loop-at.invariant.at c.loop-at-test.true).in_listed

pub returns-then-head-number-clause-place : goal.returns-then-head-number-clause-place
returns-then-head-number-clause-place g c =
    let s = entries c.args.slots.now in
    let sound = c.lower_laws.ensures.standing.sound c.args.slots.now (g.S.WordsIn.words c.args.seg.now) (g.S.WordsIn.aside c.args.seg.now) s c.requires.stand in
    let here = removed_here c.lower_laws.ensures.standing.sound c.args.slots.now (g.S.WordsIn.words c.args.seg.now) (g.S.WordsIn.aside c.args.seg.now) s c.loop-at.invariant.passed c.loop-at.at c.requires.stand c.loop-at.invariant.at c.loop-at-test.true in
    its_place s.removed c.args.number c.head.result.number c.loop-at.at here.left.row here.left.there here.left.place (c.head.ensures.head here.left.row here.member).number c.if-head-number.true (removed_zero s sound.placed)

pub loop-at-smaller : goal.loop-at-smaller
loop-at-smaller g c =
    let s = entries c.args.slots.now in
    let sound = c.lower_laws.ensures.standing.sound c.args.slots.now (g.S.WordsIn.words c.args.seg.now) (g.S.WordsIn.aside c.args.seg.now) s c.requires.stand in
    let here = removed_here c.lower_laws.ensures.standing.sound c.args.slots.now (g.S.WordsIn.words c.args.seg.now) (g.S.WordsIn.aside c.args.seg.now) s c.loop-at.invariant.passed c.loop-at.at c.requires.stand c.loop-at.invariant.at c.loop-at-test.true in
    let once : (at : ℕ) → count_by (is_at at) s.removed ≤ 1 = λ at. omega (arith, sound.once at) in
    shorter s.removed c.loop-at.invariant.passed c.loop-at.at c.after-at.result here.left.row once (removed_zero s sound.placed) c.loop-at.invariant.at (c.after-at.ensures.removed here.in_rows ∙ here.next) here.left.left

pub loop-at-preserved : goal.loop-at-preserved
loop-at-preserved g c =
    let s = entries c.args.slots.now in
    let i = c.loop-at.invariant in
    let here = removed_here c.lower_laws.ensures.standing.sound c.args.slots.now (g.S.WordsIn.words c.args.seg.now) (g.S.WordsIn.aside c.args.seg.now) s i.passed c.loop-at.at c.requires.stand i.at c.loop-at-test.true in
    let next = c.after-at.ensures in
    let head = c.head.ensures in
    record {
      passed = i.passed + 1;
      at = next.removed here.in_rows ∙ here.next;
      later = λ row there e. passed_one s.removed i.passed c.head.result.number c.args.number here.left.row here.left.left (head.head here.left.row here.member).number c.if-head-number.false row e (i.later row there e);
      kept = record { words = next.kept.words ∙ head.kept.words ∙ i.kept.words; aside = next.kept.aside ∙ head.kept.aside ∙ i.kept.aside; rest = next.kept.rest ∙ head.kept.rest ∙ i.kept.rest };
    }

pub loop-at-init : goal.loop-at-init
loop-at-init g c = record {
  passed = 0;
  at = c.first_removed-at.ensures.first;
  later = λ row there e. there;
  kept = record { words = refl; aside = refl; rest = refl };
}

pub returns-clause-place : goal.returns-clause-place
returns-clause-place g c =
    let s = entries c.args.slots.now in
    let i = c.loop-at.invariant in
    let none = removed_end c.lower_laws.ensures.standing.sound c.args.slots.now (g.S.WordsIn.words c.args.seg.now) (g.S.WordsIn.aside c.args.seg.now) s i.passed c.requires.stand (sym c.loop-at-test.false ∙ i.at) in
    subst (IsRowPlace s.removed c.args.number) (sym c.loop-at-test.false) (passed_all s.removed i.passed c.args.number none i.later)
