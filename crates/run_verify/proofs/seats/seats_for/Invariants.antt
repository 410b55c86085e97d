use Rattle.std.proofs.Common.{◌≡◌, length}
use Rattle.run_verify.proofs.GameSeats.{AreFirst}
use Rattle.run_verify.proofs.seats.seats_for.Given as goal

abbrev pub invariant-loop-worker : goal.invariant-loop-worker
invariant-loop-worker l = record {
  many : length l.seats.items ≡ l._worker;
  all : AreFirst l.seats.items;
}
