use Rattle.std.proofs.Common.{sym, subst}
use Rattle.seg_words.specs.Windows.{Aside}
use Rattle.seg_words.specs.Probing.{Met}
use Rattle.entry_slots.specs.Standing.{Stands, entries}
use Rattle.ttl_expunge.proofs.expunge.is_let_go.Goals as goal

pub probe-requires-clause-block : goal.probe-requires-clause-block
probe-requires-clause-block g c =
    (c.standing_laws.ensures.sound c.args.slots.now (g.S.WordsIn.words c.args.seg.now) (g.S.WordsIn.aside c.args.seg.now) (entries c.args.slots.now) c.requires.stand).probed c.args.at c.requires.there

pub returns-clause-free : goal.returns-clause-free
returns-clause-free g c = c.probe_laws.ensures.answer (g.S.WordsIn.aside c.args.seg.now) (g.S.WordsIn.aside c.probe.new.self) c.args.at c.probe.result c.probe.ensures.free c.probe.ensures.held

pub returns-clause-probes : goal.returns-clause-probes
returns-clause-probes g c =
    let old : Aside = g.S.WordsIn.aside c.args.seg.now in
    let new : Aside = g.S.WordsIn.aside c.probe.new.self in
    let met : Met old new c.args.at = c.probe_laws.ensures.met old new c.args.at c.probe.result c.probe.ensures.free c.probe.ensures.held in
    record {
      met = met;
      stand = subst (λ ws. Stands c.args.slots.now ws new (entries c.args.slots.now)) (sym c.probe.ensures.words)
          (c.window_laws.ensures.closed c.args.slots.now (g.S.WordsIn.words c.args.seg.now) old new (entries c.args.slots.now) met.goes.closes c.requires.stand);
      rest = c.probe.ensures.rest;
    }
