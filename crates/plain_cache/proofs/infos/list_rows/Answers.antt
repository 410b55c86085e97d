use Rattle.std.proofs.Common.{◌++◌, ap, ◌∙◌, map, filter}
use Rattle.apcu_model.specs.Infos.{listed_of}
use Rattle.apcu_model.specs.SlotOrder.{is_in_slot}
use Rattle.plain_cache.proofs.RowsBySlot.{slot_goes_on}
use Rattle.plain_cache.proofs.infos.list_rows.Goals as goal

pub loop-slot-preserved : goal.loop-slot-preserved
loop-slot-preserved c =
    let rows = c.args.rows.now in
    let conf = c.args.conf in
    let old = c.loop-slot.list.items in
    let same = ap (λ slot. old ++ map listed_of (filter (is_in_slot conf slot) rows)) c.from.ensures in
    slot_goes_on conf rows c.loop-slot.slot old c.list_slot.new.list.items c.loop-slot-test.true (c.in_ok-list_slot.ensures ∙ same)
    ∙ c.loop-slot.invariant
