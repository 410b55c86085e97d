use Rattle.std.proofs.Common.{◌∙◌, ◌<◌, arith}
use Rattle.entry_slots.specs.Standing.{entries}
use Rattle.cache_info.proofs.ListedRows.{chain_goes_on}
use Rattle.cache_info.proofs.rows.list_rows.Goals as goal

pub loop-slot-preserved : goal.loop-slot-preserved
loop-slot-preserved g c =
    let s = entries c.args.slots.now in
    let i = c.loop-slot.invariant in
    let one = c.in_ok-list_chain.ensures in
    let low : c.loop-slot.slot < s.conf.slots = omega (arith, c.loop-slot-test.true, c.slots-slot-end.ensures) in
    record {
      rows = chain_goes_on s c.loop-slot.slot c.loop-slot.list.items c.list_chain.new.list.items low one.rows ∙ i.rows;
      kept = record { words = one.kept.words ∙ i.kept.words; aside = one.kept.aside ∙ i.kept.aside; rest = one.kept.rest ∙ i.kept.rest };
    }
