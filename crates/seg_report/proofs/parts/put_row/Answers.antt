use Rattle.std.proofs.Common.{◌∙◌}
use Rattle.entry_slots.specs.Lists.{has_place}
use Rattle.entry_slots.specs.Standing.{entries}
use Rattle.seg_report.proofs.PartWalkSteps.{line_is}
use Rattle.seg_report.proofs.parts.put_row.Goals as goal

pub returns-clause-line : goal.returns-clause-line
returns-clause-line g c = λ row is.
    let removed = (entries c.args.slots.now).removed in
    let head = c.head-head.ensures.head row is in
    let key = c.deref.ensures.value ∙ c.in_ok-key.ensures.key row is in
    let gone = c.is_place.ensures removed c.requires.places in (
      head.size,
      line_is c.args.out.now c.put_entry.new.out c.is_place.result (has_place c.args.at removed) c.args.at c.head-head.result.size c.head-head.result.number c.deref.result.now row c.in_ok-put_entry.ensures.ok gone is.place head.size head.number key,
    )
