use Rattle.std.proofs.Common.{◌≡◌, ◌++◌, drop, map, filter}
use Rattle.apcu_model.specs.Infos.{listed_of}
use Rattle.apcu_model.specs.SlotOrder.{is_in_slot}
use Rattle.plain_cache.proofs.infos.list_slot.Given as goal

abbrev pub invariant-loop-row : goal.invariant-loop-row
invariant-loop-row l =
    l.list.items ++ map listed_of (filter (is_in_slot l.conf l.slot) (drop l.row-index l.rows))
    ≡ l.initial.list.items ++ map listed_of (filter (is_in_slot l.conf l.slot) l.rows)
