use Rattle.std.proofs.Common.{◌∙◌, refl, arith}
use Rattle.std.specs.Prelude.{slice_index}
use Rattle.entry_slots.specs.Standing.{entries}
use Rattle.ttl_expunge.proofs.DroppedRows.{drops_none}
use Rattle.ttl_expunge.proofs.DropsByPlace.{left_at, dropped_next, dropped_all}
use Rattle.ttl_expunge.proofs.places.drop_rows.Goals as goal

pub loop-at-init : goal.loop-at-init
loop-at-init g c =
    let s = entries c.args.slots.now in
    let aside = g.S.WordsIn.aside c.args.seg.now in
    record {
      drops = λ gone are. drops_none s aside aside c.args.t refl c.requires.ready.refused;
      stand = c.requires.ready.stand;
      rest = refl;
    }

pub drop_row-requires-clause-there : goal.drop_row-requires-clause-there
drop_row-requires-clause-there g c =
    let i = c.loop-at.invariant in
    let r = c.requires.rows in
    let sound = c.standing_laws.ensures.sound c.loop-at.slots (g.S.WordsIn.words c.loop-at.seg) (g.S.WordsIn.aside c.loop-at.seg) (entries c.loop-at.slots) i.stand in
    let first = c.standing_laws.ensures.sound c.args.slots.now (g.S.WordsIn.words c.args.seg.now) (g.S.WordsIn.aside c.args.seg.now) (entries c.args.slots.now) c.requires.ready.stand in
    (left_at r.0 c.loop-at.at-index (slice_index c.args.places.now c.loop-at.at-index) r.1 first.apart sound (i.drops r.0 r.1) c.loop-at-test.true refl).there

pub drop_row-requires-clause-ready : goal.drop_row-requires-clause-ready
drop_row-requires-clause-ready g c = record { stand = c.loop-at.invariant.stand; refused = (c.loop-at.invariant.drops c.requires.rows.0 c.requires.rows.1).refused }

pub loop-at-preserved : goal.loop-at-preserved
loop-at-preserved g c =
    let i = c.loop-at.invariant in
    let sound = c.standing_laws.ensures.sound c.loop-at.slots (g.S.WordsIn.words c.loop-at.seg) (g.S.WordsIn.aside c.loop-at.seg) (entries c.loop-at.slots) i.stand in
    let first = c.standing_laws.ensures.sound c.args.slots.now (g.S.WordsIn.words c.args.seg.now) (g.S.WordsIn.aside c.args.seg.now) (entries c.args.slots.now) c.requires.ready.stand in
    record {
      drops = λ gone are.
          let left = left_at gone c.loop-at.at-index (slice_index c.args.places.now c.loop-at.at-index) are first.apart sound (i.drops gone are) c.loop-at-test.true refl in
          dropped_next gone c.loop-at.at-index (slice_index c.args.places.now c.loop-at.at-index) left (i.drops gone are) c.drop_row.ensures.drops;
      stand = c.drop_row.ensures.stand;
      rest = c.drop_row.ensures.rest ∙ i.rest;
    }

pub returns : goal.returns
returns g c = λ gone are. record {
  drops = dropped_all gone c.loop-at.at-index are (omega (arith, c.loop-at-test.false)) (c.loop-at.invariant.drops gone are);
  stand = c.loop-at.invariant.stand;
  rest = c.loop-at.invariant.rest;
}
