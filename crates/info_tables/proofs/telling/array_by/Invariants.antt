use Rattle.std.proofs.Common.{◌≡◌, ◌+◌, ◌++◌, length, drop}
use Rattle.apcu_model.specs.InfoGraphs.{single_members}
use Rattle.info_tables.proofs.telling.array_by.Given as goal

abbrev pub invariant-loop-key : goal.invariant-loop-key
invariant-loop-key l = record {
  members : l.items.items ++ single_members l.next (drop l.key-index l.names) ≡ single_members l.place l.names;
  room : l.next ≡ l.place + l.key-index;
  count : length l.items.items ≡ l.key-index;
}
