use Rattle.std.proofs.Common.{◌≡◌, ◌-◌, ◌++◌, length}
use Rattle.apcu_model.specs.InfoGraphs.{stepped_members, stepped_end}
use Rattle.info_tables.proofs.telling.list_of.Given as goal

abbrev pub invariant-loop-i : goal.invariant-loop-i
invariant-loop-i l = record {
  members : l.items.items ++ stepped_members l.next l.i l.step (l.count - l.i) ≡ stepped_members l.place 0 l.step l.count;
  room : stepped_end l.next l.step (l.count - l.i) ≡ stepped_end l.place l.step l.count;
  count : length l.items.items ≡ l.i;
}
