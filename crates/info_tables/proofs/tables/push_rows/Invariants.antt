use Rattle.std.proofs.Common.{◌≡◌, ◌+◌, ◌++◌, map, length}
use Rattle.std.specs.Vec.Iter.{into_iter_items, into_iter_len}
use Rattle.std.specs.List.{AllByRecursion}
use Rattle.php_graph.specs.ByteStrings.{AreBytes}
use Rattle.apcu_model.specs.declared.row_info.ListedRow.{ListedRow}
use Rattle.apcu_model.specs.Infos.{info_row}
use Rattle.apcu_model.specs.InfoGraphs.{values_run}
use Rattle.info_tables.proofs.tables.push_rows.Given as goal

abbrev pub invariant-loop-row : goal.invariant-loop-row
invariant-loop-row l = record {
  info : l.telling ++ values_run (length l.telling + 1) (map info_row (into_iter_items l.row-iterator))
      ≡ l.initial.telling ++ values_run (length l.initial.telling + 1) (map info_row l.fn.rows.items);
  keys : AllByRecursion (λ (row : ListedRow). AreBytes row.key) (into_iter_items l.row-iterator)
      → AllByRecursion (λ (row : ListedRow). AreBytes row.key) l.fn.rows.items;
  len : into_iter_len l.row-iterator ≡ length (into_iter_items l.row-iterator);
}
