use Rattle.std.proofs.Common.{◌≡◌, ◌++◌, take, drop, map}
use Rattle.apcu_model.specs.Counters.{with_integer_at}
use Rattle.plain_cache.proofs.rows.set_in.Given as goal

abbrev pub invariant-loop-row : goal.invariant-loop-row
invariant-loop-row l = l.rows ≡ map (with_integer_at l.key l.n l.t) (take l.row-index l.initial.rows) ++ drop l.row-index l.initial.rows
