use Rattle.std.proofs.Common.{◌≡◌, ◌++◌, take, drop, map}
use Rattle.apcu_model.specs.Rows.{touched_at}
use Rattle.plain_cache.proofs.rows.touch_in.Given as goal

abbrev pub invariant-loop-row : goal.invariant-loop-row
invariant-loop-row l = l.rows ≡ map (touched_at l.key l.t) (take l.row-index l.initial.rows) ++ drop l.row-index l.initial.rows
