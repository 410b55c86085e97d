use Rattle.std.proofs.Common.{◌≡◌, ◌++◌, drop}
use Rattle.play_laws.specs.Summary.{counter_lines}
use Rattle.apcu_play.proofs.summary.write_counters.Given as goal

abbrev pub invariant-loop-n : goal.invariant-loop-n
invariant-loop-n l = l.out ++ counter_lines l.n (drop l.n l.counters) ≡ l.fn.out ++ counter_lines 0 l.counters
