use Rattle.std.proofs.Common.{◌+◌, sym, ◌∙◌, arith, refl}
use Rattle.entry_slots.specs.Standing.{entries}
use Rattle.entry_slots.proofs.RowBlocks.{room, told_at}
use Rattle.entry_slots.proofs.Blocks.{read_along}
use Rattle.entry_slots.proofs.DistinctPlaces.{removed_few}
use Rattle.entry_slots.proofs.RemovedRows.{path_start, path_stop, stop_in, path_next, path_found, path_end, path_short, homes_removed, stop_small}
use Rattle.entry_slots.proofs.slots.EntrySlots.removed_link.Goals as goal

pub loop-passed-init : goal.loop-passed-init
loop-passed-init g c = record { path = path_start (entries c.args.self.now) c.args.target c.requires.stand; kept = record { words = refl; aside = refl; rest = refl } }

pub overflow_add-link : goal.overflow_add-link
overflow_add-link g c =
    let stop = path_stop c.loop-passed.invariant.path c.if-named-eq0.false in
    let w = room (homes_removed c.requires.stand stop.row (stop_in stop)) in
    omega (arith, stop.place, w.high, w.short, w.enough)

pub load-named-requires : goal.load-named-requires
load-named-requires g c =
    let stop = path_stop c.loop-passed.invariant.path c.if-named-eq0.false in
    let w = room (homes_removed c.requires.stand stop.row (stop_in stop)) in
    rw c.loop-passed.invariant.kept.words (omega (arith, stop.place, w.high, w.enough))

pub overflow_cast-named : goal.overflow_cast-named
overflow_cast-named g c =
    let h = c.requires.stand in
    let stop = path_stop c.loop-passed.invariant.path c.if-named-eq0.false in
    let home = homes_removed h stop.row (stop_in stop) in
    let read = read_along (g.S.WordsIn.words c.args.seg.now) (g.S.WordsIn.words c.loop-passed.seg) (g.S.WordsIn.aside c.args.seg.now) (g.S.WordsIn.aside c.loop-passed.seg) (c.loop-passed.named + 1) c.load-named.result c.loop-passed.invariant.kept.words c.loop-passed.invariant.kept.aside (told_at home c.loop-passed.named 1 (sym stop.place) (omega arith) (omega arith)) c.load-named.ensures.word in
    let small = stop_small stop (homes_removed h) in
    omega (arith, read, small)

pub loop-passed-preserved : goal.loop-passed-preserved
loop-passed-preserved g c = record {
  path =
      let h = c.requires.stand in
      let path = c.loop-passed.invariant.path in
      let stop = path_stop path c.if-named-eq0.false in
      let home = homes_removed h stop.row (stop_in stop) in
      let read = read_along (g.S.WordsIn.words c.args.seg.now) (g.S.WordsIn.words c.loop-passed.seg) (g.S.WordsIn.aside c.args.seg.now) (g.S.WordsIn.aside c.loop-passed.seg) (c.loop-passed.named + 1) c.load-named.result c.loop-passed.invariant.kept.words c.loop-passed.invariant.kept.aside (told_at home c.loop-passed.named 1 (sym stop.place) (omega arith) (omega arith)) c.load-named.ensures.word in
      path_next path c.if-named-target.false c.if-named-eq0.false c.load-named.result read;
  kept = record { words = c.load-named.ensures.words ∙ c.loop-passed.invariant.kept.words; aside = c.load-named.ensures.aside ∙ c.loop-passed.invariant.kept.aside; rest = c.load-named.ensures.rest ∙ c.loop-passed.invariant.kept.rest };
}

pub returns-then-named-target-clause-some : goal.returns-then-named-target-clause-some
returns-then-named-target-clause-some g c = path_found c.loop-passed.invariant.path c.if-named-target.true

pub returns-then-named-eq0-clause-none : goal.returns-then-named-eq0-clause-none
returns-then-named-eq0-clause-none g c =
    let h = c.requires.stand in
    ((λ q. c.if-named-target.false (c.if-named-eq0.true ∙ sym q)), path_end c.loop-passed.invariant.path c.if-named-eq0.true (homes_removed h))

pub returns-clause-none : goal.returns-clause-none
returns-clause-none g c =
    let h = c.requires.stand in
    let short = path_short c.loop-passed.invariant.path in
    absurd (omega (arith, short, c.loop-passed-test.false, removed_few h, h.ready.end, h.usable.slots_least, h.from))
