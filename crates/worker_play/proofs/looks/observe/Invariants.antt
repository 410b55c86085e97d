use Rattle.std.proofs.Common.{◌≡◌, ◌≤◌, ◌+◌, length}
use Rattle.worker_play.specs.Goes.{KnowsOwnEvents}
use Rattle.worker_play.proofs.CounterLooks.{Looked}
use Rattle.worker_play.proofs.looks.observe.Given as goal

abbrev pub invariant-loop-number : goal.invariant-loop-number
invariant-loop-number g l = record {
  table : l.held.table ≡ g.N.TableName.table;
  whole : KnowsOwnEvents l.held;
  left : 9 ≤ l.held.known.left + l.number;
  looked : Looked g.N.TableName.conf (length g.N.TableName.budgets) l.fn.pass l.held l.number l.counters;
}
