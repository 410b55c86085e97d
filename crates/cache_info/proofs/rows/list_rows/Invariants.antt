use Rattle.std.proofs.Common.{◌≡◌, ◌-◌, ◌++◌, map}
use Rattle.std.specs.List.{flat_map, range_with_len}
use Rattle.seg_words.specs.Kept.{Kept}
use Rattle.apcu_model.specs.Infos.{listed_of}
use Rattle.apcu_model.specs.SlotOrder.{in_slot_order}
use Rattle.entry_slots.specs.Entries.{chain_of}
use Rattle.entry_slots.specs.Standing.{entries}
use Rattle.cache_info.proofs.rows.list_rows.Given as goal

abbrev pub invariant-loop-slot : goal.invariant-loop-slot
invariant-loop-slot g l = record {
  rows : l.list.items ++ map listed_of (flat_map (chain_of (entries l.slots)) (range_with_len l.slot ((entries l.slots).conf.slots - l.slot)))
      ≡ map listed_of (in_slot_order (entries l.slots).conf (entries l.slots).rows);
  kept : Kept g.S.WordsIn l.fn.seg l.seg;
}
