use Rattle.std.proofs.Common.{◌≡◌, ◌-◌, ◌++◌, map, filter}
use Rattle.std.specs.List.{flat_map, range_with_len}
use Rattle.apcu_model.specs.Infos.{listed_of}
use Rattle.apcu_model.specs.SlotOrder.{is_in_slot, in_slot_order}
use Rattle.plain_cache.proofs.infos.list_rows.Given as goal

abbrev pub invariant-loop-slot : goal.invariant-loop-slot
invariant-loop-slot l =
    l.list.items ++ map listed_of (flat_map (λ slot. filter (is_in_slot l.conf slot) l.rows) (range_with_len l.slot (l.conf.slots - l.slot)))
    ≡ map listed_of (in_slot_order l.conf l.rows)
