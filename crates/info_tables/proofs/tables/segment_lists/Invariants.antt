use Rattle.std.proofs.Common.{◌≡◌, ◌+◌, ◌-◌, ◌*◌, ◌≤◌, ◌++◌, length, map}
use Rattle.std.specs.List.{range_with_len}
use Rattle.apcu_model.specs.Infos.{info_members, info_numbered, info_segment}
use Rattle.info_tables.proofs.tables.segment_lists.Given as goal

abbrev pub invariant-loop-k : goal.invariant-loop-k
invariant-loop-k l = record {
  members : l.items.items ++ info_members l.next (info_numbered l.k (map (info_segment l.piece l.gaps) (range_with_len l.k (l.segments - l.k))))
      ≡ info_members l.place (info_numbered 0 (map (info_segment l.piece l.gaps) (range_with_len 0 l.segments)));
  count : length l.items.items ≡ l.k;
  room : l.next ≤ l.place + 50331649 * l.k;
}
