use Rattle.std.proofs.Common.{◌≡◌, ◌*◌, length}
use Rattle.block_tests.proofs.rows.play_on_pairs.Given as goal

abbrev pub invariant-loop-i : goal.invariant-loop-i
invariant-loop-i l = length l.pairs ≡ 2 * l.count
