use Rattle.std.proofs.Common.{◌∙◌}
use Rattle.cache_core.proofs.ReplacedRows.{puts_from}
use Rattle.entry_slots.specs.Standing.{entries}
use Rattle.value_image.specs.Contained.{graph_of}
use Rattle.cache_core.proofs.placing.put_in.Goals as goal

pub returns-clause-puts : goal.returns-clause-puts
returns-clause-puts g c =
    let s = entries c.args.slots.now in
    let sound = c.lower_laws.ensures.standing.sound c.args.slots.now (g.S.WordsIn.words c.args.seg.now) (g.S.WordsIn.aside c.args.seg.now) s c.requires.ready.stand in
    puts_from c.lower_laws.ensures c.args.at c.args.key.now (graph_of c.args.content.now) c.args.ttl c.args.t c.args.slot sound c.requires.slot c.spot_swept-spot.ensures.swept.drops c.replace.ensures.replaces

pub replace-requires-clause-ready : goal.replace-requires-clause-ready
replace-requires-clause-ready g c = record { stand = c.spot_swept-spot.ensures.swept.stand; refused = c.spot_swept-spot.ensures.swept.drops.refused }

pub returns-clause-rest : goal.returns-clause-rest
returns-clause-rest g c = c.replace.ensures.rest ∙ c.spot_swept-spot.ensures.swept.rest
