use Rattle.std.proofs.Common.{◌≡◌, ◌++◌, ◌≤◌, length, take, drop}
use Rattle.run_verify.proofs.comparing.match_piece.Given as goal

abbrev pub invariant-loop-i : goal.invariant-loop-i
invariant-loop-i l = record {
  far : l.i ≤ length l.left;
  same : l.left ≡ take l.i l.piece ++ drop l.i l.left;
}
