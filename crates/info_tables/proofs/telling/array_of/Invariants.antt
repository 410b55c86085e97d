use Rattle.std.proofs.Common.{◌≡◌, ◌+◌, ◌*◌, ◌^◌, ◌≤◌, ◌++◌, true, length, drop}
use Rattle.std.specs.Prelude.{sum_by, nat_lt}
use Rattle.std.specs.List.{list_all}
use Rattle.apcu_model.specs.InfoGraphs.{sized_members, name_cells}
use Rattle.info_tables.proofs.telling.array_of.Given as goal

abbrev pub invariant-loop-field : goal.invariant-loop-field
invariant-loop-field l = record {
  members : l.items.items ++ sized_members l.next (drop l.field-index l.fields) ≡ sized_members l.place l.fields;
  short : list_all (λ f. nat_lt (length f.0.now) (2 ^ 8)) (drop l.field-index l.fields) ≡ true;
  room : l.next + sum_by (λ f. f.1) (drop l.field-index l.fields) ≡ l.place + sum_by (λ f. f.1) l.fields;
  cells : l.cells + name_cells (drop l.field-index l.fields) ≡ 1 + name_cells l.fields;
  small : l.cells ≤ 1 + l.field-index * 40;
  count : length l.items.items ≡ l.field-index;
}
