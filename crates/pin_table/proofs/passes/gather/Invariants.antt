use Rattle.std.proofs.Common.{◌≡◌, ◌++◌, length, None}
use Rattle.pin_table.specs.Lists.{known_list, AllOf}
use Rattle.pin_table.proofs.passes.gather.Given as goal

abbrev pub invariant-loop-e : goal.invariant-loop-e
invariant-loop-e l = record {
  table : l.seat.table ≡ l.initial.seat.table;
  words : l.seat.state.words ≡ l.initial.seat.state.words;
  history : l.seat.state.log.history ≡ l.initial.seat.state.log.history;
  made : l.seat.state.log.made ≡ l.initial.seat.state.log.made;
  hand : l.seat.state.log.hand ≡ None;
  closed : known_list l.ended.ended ++ l.seat.state.log.closed ≡ known_list l.initial.ended.ended ++ l.initial.seat.state.log.closed;
  tables : AllOf l.table l.ended.ended;
}

abbrev pub decreases-loop-e : goal.decreases-loop-e
decreases-loop-e l = length l.ended.ended
