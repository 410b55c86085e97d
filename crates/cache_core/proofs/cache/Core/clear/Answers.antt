use Rattle.std.proofs.Common.{refl, ap}
use Rattle.seg_words.specs.Probing.{goes_nowhere}
use Rattle.entry_slots.specs.Entries.{Entries}
use Rattle.entry_slots.specs.Standing.{entries}
use Rattle.ttl_expunge.specs.Dropping.{all_rows}
use Rattle.cache_core.specs.declared.cache.Core.{Core}
use Rattle.apcu_model.specs.Facts.{leaving_from}
use Rattle.cache_core.proofs.KeyRows.{core_cleared}
use Rattle.cache_core.proofs.cache.Core.clear.Goals as goal

pub expunge_at_once-requires-clause-ready : goal.expunge_at_once-requires-clause-ready
expunge_at_once-requires-clause-ready g c = record { stand = c.requires.stand.stand; refused = c.requires.refused }

pub expunge_at_once-requires-clause-whole : goal.expunge_at_once-requires-clause-whole
expunge_at_once-requires-clause-whole g c = (ap (λ (x : Entries). x.unlinked) c.requires.stand.whole, ap (λ (x : Entries). x.taken) c.requires.stand.whole)

pub returns : goal.returns
returns g c =
    let core = c.args.self.now in
    let new : Core = record core { slots = c.expunge_at_once.new.slots; cache_counts = c.new-self.result } in
    let s = entries core.slots in
    let laws = c.lower_laws.ensures in
    let drops = c.expunge_at_once.ensures.drops in
    let words = g.S.WordsIn.words c.args.seg.now in
    let begun = g.S.WordsIn.aside c.args.seg.now in
    let now = g.S.WordsIn.aside c.expunge_at_once.new.seg in
    let sound = laws.standing.sound core.slots words begun s c.requires.stand.stand in
    let made = core_cleared laws core new c.args.t c.requires.stand.whole drops refl c.new-self.ensures in
    record {
      reply = λ later on. refl;
      cache = λ later on. (made later on).0;
      step = record {
        goes = drops.goes;
        keeps = laws.drops.keeps s (entries c.expunge_at_once.new.slots) words begun.windows begun now c.args.t (all_rows s) sound (λ row m. leaving_from s.conf s.rows row m) drops;
        refused = λ was. drops.refused;
        stand = record { stand = c.expunge_at_once.ensures.stand; whole = (made now (goes_nowhere now now refl)).1 };
        rest = c.expunge_at_once.ensures.rest;
      };
    }
